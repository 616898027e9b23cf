-- Begin with Placing: the sections stay placed, by Admits. Away is of bytes off a section's pages.
pub mod Admits
pub mod Away
pub mod Placing
