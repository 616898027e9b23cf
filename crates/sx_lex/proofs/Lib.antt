-- Begin with Turns: one turn of the reading, by Names, Numbers and Signs. Same and HasReading: each
-- text has exactly one reading.
pub mod Found
pub mod Names
pub mod Numbers
pub mod Signs
pub mod Tables
pub mod Turns
pub mod Same
pub mod HasReading
