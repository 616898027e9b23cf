-- Begin with Observing: what a call adds of the items that are due. InMemory is the setting in
-- memory, Computed what the code computes.
pub mod Observing
pub mod Computed
pub mod InMemory
pub mod Recognized
