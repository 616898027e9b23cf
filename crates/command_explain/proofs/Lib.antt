-- Read Written first: what is said of a trace, line by line. Between is the state of the command
-- between two lines, Owing what is due of some lines, Statuses, over Stops, the exit status; Heads and
-- Starting lead to the trace, and Promised has what follows for the whole command.
pub mod Between
pub mod Explained
pub mod Found
pub mod Fronts
pub mod Heads
pub mod Judged
pub mod Owing
pub mod Promised
pub mod Starting
pub mod Statuses
pub mod Stops
pub mod Wanted
pub mod Written
