-- Begin with Grammar: which tokens are which part of a module, and Text, the same of bytes. Machine
-- is a second form, to compute with.
pub mod Tokens
pub mod Grammar
pub mod Laws
pub mod Text
pub mod Machine
