-- What `describe` writes, and what it promises.
pub mod Output
