-- Read Stretches first: the world after one line more. Longer has what a timeline with one line more is.
pub mod Adding
pub mod Longer
pub mod Stretches
