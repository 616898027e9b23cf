-- Read Written first: what is written of common lines and of schedules, line by line, with Between,
-- the invariants of the loops. Replied is what a line does, Reading how parts that read follow on
-- one another, Giving which lines they were given, and Owing what is due of some lines. Answered
-- says what the answers are of what `run` writes, and Said what follows for the whole command.
pub mod Answered
pub mod Between
pub mod Giving
pub mod Owing
pub mod Reading
pub mod Replied
pub mod Said
pub mod Written
