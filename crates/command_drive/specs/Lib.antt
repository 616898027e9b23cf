-- Begin with Promise: what the command promises. Output has what it writes, Input what its lines
-- say.
pub mod Output
pub mod Promise
pub mod Parts
pub mod Input
pub mod Status
