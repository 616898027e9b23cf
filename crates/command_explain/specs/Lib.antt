-- Begin with Promise: what the command promises. Output has what it writes, Trace the items of
-- the trace that it reads, Meant what texts and lines mean. Turns is for contracts of functions.
pub mod Output
pub mod Promise
pub mod Laws
pub mod Meant
pub mod Trace
pub mod Turns
pub mod Wants
