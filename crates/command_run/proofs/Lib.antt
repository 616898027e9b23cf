-- Read Written first: what is written of a schedule, line by line, with Between, the invariant of
-- the loop over lines; Counted counts them. Listed says that what `lines` shows is the run of `run`. Legality and Moving
-- are what the run of these commands promises, Owing is what is due of some lines, and Said what
-- follows for the whole commands.
pub mod Between
pub mod Counted
pub mod Fronted
pub mod Legality
pub mod Listed
pub mod Moving
pub mod Owing
pub mod Said
pub mod Written
