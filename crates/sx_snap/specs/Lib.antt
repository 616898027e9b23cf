-- Begin with Timeline: where a run is after any of its lines. Checkpoints and Kept are what the
-- program keeps of it; Laws is of the items of single lines.
pub mod Kept
pub mod Laws
pub mod Timeline
pub mod Checkpoints
