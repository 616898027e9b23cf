-- A module's sizes and ends as its lines have them, the end of the modules' lines, and a line of many words.
pub mod Held
pub mod Pieces
pub mod Remaining
pub mod Sizes
