-- Begin with Spelling: how instructions are written as words, over Instructions and Legal. Standing
-- is of instructions in memory, Assembly of instructions as TI's guide writes them. Reading
-- computes what Spelling says.
pub mod Spelling
pub mod Legal
pub mod Instructions
pub mod Reading
pub mod Extending
pub mod Memory
pub mod Standing
pub mod Assembly
pub mod Shaped
