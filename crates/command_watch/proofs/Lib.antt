-- Read Written first: what is said of a trace, line by line. Standing is of the property that
-- follows it, Between of the command between two lines, Owing of what is due of some
-- lines, Statuses of the exit status. Limits, Longer and Heads lead to the trace, and Promised has
-- what follows for the whole command.
pub mod Between
pub mod Cut
pub mod Heads
pub mod Limits
pub mod Longer
pub mod Owing
pub mod Promised
pub mod Standing
pub mod Statuses
pub mod Written
