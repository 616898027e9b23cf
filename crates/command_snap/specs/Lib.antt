-- Begin with Promise: what the command promises. Output has what it writes, over Reading, from lines
-- to a schedule and what follows it, Input, what a text says as a query, and Answers, what is written
-- of one. Status has the exit status, Wants at which lines memory may run out. Kept, Asked and
-- Foreseen are for contracts of functions.
pub mod Answers
pub mod Kept
pub mod Input
pub mod Asked
pub mod Foreseen
pub mod Reading
pub mod Output
pub mod Promise
pub mod Status
pub mod Wants
