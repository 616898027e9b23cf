-- Begin with Kept: an arena stays one through its calls. Walks, Memory and Sharing are of the raw
-- pointer, Slots and Views of what is in the block; Apart says that two blocks share no byte.
pub mod Apart
pub mod Kept
pub mod Loops
pub mod Memory
pub mod Slots
pub mod Sharing
pub mod Views
pub mod Walks
