-- Begin with Promise: what the command promises. Output has what it writes, Status its status, and
-- Laws says what its answers are of what `run` writes. Parts is for contracts of functions.
pub mod Laws
pub mod Output
pub mod Parts
pub mod Promise
pub mod Status
