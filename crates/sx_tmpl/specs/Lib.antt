-- Begin with Performs: what it means that instructions do what stack code does, over Shows and
-- Running. Template has the instructions of each operation, Text the whole text, Scratch the places
-- that templates alone use; Fits is for the code.
pub mod Scratch
pub mod Running
pub mod Unseen
pub mod Steady
pub mod Shows
pub mod Template
pub mod Text
pub mod Performs
pub mod Fits
