-- Begin with Run: a schedule's lines as acts, over Setting, State and Acts. Observation, Ledger and
-- Deployer are what a line shows and enters; Accepted and AcceptedLaw are the theorem, Law its form
-- for sound settings, and OrderLaw what more holds; Renewed ties the deployer to the source.
pub mod Setting
pub mod Ledger
pub mod Deployer
pub mod State
pub mod Observation
pub mod Acts
pub mod Run
pub mod Law
pub mod OrderLaw
pub mod Accepted
pub mod AcceptedLaw
pub mod Renewed
