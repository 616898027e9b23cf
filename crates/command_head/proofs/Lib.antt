-- Known: what texts mean is a function. Given: the lines after the head that a command was given,
-- by its parts. Came: one of them, which was held or read for it.
pub mod Came
pub mod Given
pub mod Known
