-- Begin with Promised: what follows for the command. Heads leads to it from a head that was read,
-- Statuses has the exit status.
pub mod Heads
pub mod Promised
pub mod Statuses
