-- Begin with Generated: what follows for the command. Stated: its workload is a good input;
-- Tallies: the state of the workload's run between two of its lines.
pub mod Generated
pub mod Stated
pub mod Tallies
