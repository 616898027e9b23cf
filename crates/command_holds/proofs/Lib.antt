-- Begin with Promised: what follows for the command. Endings leads to it from the last part of the
-- command to the first; Statuses has the exit status.
pub mod Endings
pub mod Promised
pub mod Statuses
