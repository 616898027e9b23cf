-- Begin with Counting. Guesses is the law on attempts, Processes those who also ask, and Pads the
-- law on ciphers, and Meeting that on values that are met by chance.
pub mod Counting
pub mod Guesses
pub mod Processes
pub mod Pads
pub mod Meeting
