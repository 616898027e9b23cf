-- Begin with ClosedKeeps: no item leads out of a closed table. Demanded has that a table that passes
-- the check is closed, and Keeping what a table shows of all runs.
pub mod Rules
pub mod Lists
pub mod Ways
pub mod Tests
pub mod Cases
pub mod Carried
pub mod Kept
pub mod ClosedKeeps
pub mod ClosedKeepsInRuns
pub mod Checked
pub mod Demanded
pub mod CheckedKeeps
pub mod Same
pub mod Leading
pub mod Making
pub mod Shutting
pub mod Unbroken
pub mod Keeping
