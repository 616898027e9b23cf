-- Begin with Promise: what the command promises. Output has what it writes, Meant what texts and
-- lines mean, Laws what its statuses say. Parts and Following are for contracts of functions.
pub mod Following
pub mod Laws
pub mod Meant
pub mod Output
pub mod Parts
pub mod Promise
