-- Begin with Promise: what a command that reports on a deployment promises. Output has what it
-- writes.
pub mod Output
pub mod Promise
