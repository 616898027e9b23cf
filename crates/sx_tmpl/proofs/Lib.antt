-- Begin with Running: steps of a module in mid-run. Operations does each template, and Texts leads
-- to the whole text.
pub mod Running
pub mod Operations
pub mod Texts
pub mod Putting
pub mod Agreeing
pub mod Twins
pub mod Abreast
pub mod Seals
