-- Read Written first: what is written line by line. Places is about the places of lines, Statuses
-- has the exit status, Owing what is due of some lines, and Said what follows for the whole command.
pub mod Between
pub mod Owing
pub mod Places
pub mod Reached
pub mod Registers
pub mod Said
pub mod Statuses
pub mod Written
