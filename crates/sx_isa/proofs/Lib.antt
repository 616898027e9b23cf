-- Begin with Agreement: the computing reading is the spelling read back, from Sound (what is read
-- is spelled) and Spelled (what is spelled is read). Formats, FirstWords, Operands, Codes and Bits
-- are what both need, StandingLemmas is of instructions in memory.
pub mod Agreement
pub mod Bare
pub mod Bits
pub mod Codes
mod Examples
pub mod FirstWords
pub mod Formats
pub mod Lengths
pub mod Operands
pub mod Sound
pub mod Spelled
pub mod StandingLemmas
pub mod WithWords
