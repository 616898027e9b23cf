-- Begin with CompiledRealizes: a module's image realizes it; by Begun, Does and Written, the
-- beginning, the middle and the end of a call, over Joins and Sound. Handling, BodyText and
-- BodyDoes are of the handlers alone.
pub mod Kept
pub mod Spared
pub mod Regular
pub mod Written
pub mod FewPieces
pub mod ZerosInitial
pub mod Begun
pub mod Does
pub mod Parts
pub mod Sizes
pub mod Narrow
pub mod Sound
pub mod CompiledRealizes
pub mod Joins
pub mod BodyText
pub mod Handling
pub mod BodyDoes
pub mod Links
pub mod Returning
