-- Begin with Assembling and Disassembling: what `asm` and `dis` write and promise, over Listing,
-- the listing of code. Kept is what `dis` keeps of its input; Gathering is for contracts of
-- functions.
pub mod Assembling
pub mod Disassembling
pub mod Gathering
pub mod Kept
pub mod Listing
