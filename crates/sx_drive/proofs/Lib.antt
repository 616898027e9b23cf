-- Begin with Remains: what is left of a part of an honest run.
pub mod Remains
pub mod Parts
pub mod Loops
pub mod Performed
pub mod Shown
pub mod Callees
