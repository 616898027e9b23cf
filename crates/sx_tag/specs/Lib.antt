-- Begin with Mac: tag functions. Keys is the chain of keys, Wrap authenticated encryption. Stream,
-- Weak and Tags are for code and tests.
pub mod Mac
pub mod Weak
pub mod Keys
pub mod Wrap
pub mod Laws
pub mod Stream
pub mod Tags
