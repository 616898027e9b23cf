-- What `check` writes, and what it promises.
pub mod Output
