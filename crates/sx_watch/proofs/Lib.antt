-- Meanings: a text has exactly one meaning. Inputs: a module has no input of a number above 254.
-- Following: what an item makes of a property that followed others.
pub mod Meanings
pub mod Inputs
pub mod Following
