-- Begin with Promise: what a command that deploys promises. Output has what it writes, and its
-- status. Afterwards is for contracts of functions, Same for laws on two calls.
pub mod Afterwards
pub mod Output
pub mod Promise
pub mod Same
