-- UnwrapsWrapped: what was wrapped is unwrapped. TagBytes: the lengths of tags, ciphers and keys.
pub mod UnwrapsWrapped
pub mod TagBytes
