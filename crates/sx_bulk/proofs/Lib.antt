-- WellFormed is of the lines; Lexing, Trees, Entries and Accepts lead from the deployment's text to
-- its acceptance.
pub mod WellFormed
pub mod Lexing
pub mod Trees
pub mod Entries
pub mod Accepts
