-- Steps is of meaning; ValidApplications, Ends and LinkEnds are of applications; Words, Scope and
-- ActsGrow say what a run of a handler keeps, SendsCounted how much it sends. Fine is what the
-- compiler takes.
pub mod Steps
pub mod Kept
pub mod Turns
pub mod ValidApplications
pub mod Ends
pub mod LinkEnds
pub mod Inputs
pub mod Handlers
pub mod Scope
pub mod ActsGrow
pub mod Words
pub mod Variables
pub mod Fine
pub mod SendsCounted
