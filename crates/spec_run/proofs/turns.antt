-- What holds of each item of a run where it is. RunsAreGiven: values are in range.
-- RunsTakeTurns, over Turns (the source's states while an event is pending) and TakingTurns (each act):
-- a node shows one event at a time.
pub mod RunsAreGiven
pub mod Turns
pub mod TakingTurns
pub mod RunsTakeTurns
