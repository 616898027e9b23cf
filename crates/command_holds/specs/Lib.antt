-- Begin with Promise: what the command promises. Output has what it writes. Parts and Ending are for
-- contracts of functions.
pub mod Output
pub mod Parts
pub mod Promise
pub mod Ending
