-- Begin with Promise: what the command writes and promises. Counts is what is counted of a run's
-- items; Counting is for contracts of functions.
pub mod Counting
pub mod Counts
pub mod Promise
