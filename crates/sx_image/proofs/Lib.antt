-- One file: how stretches of a run compose.
pub mod Reaching
