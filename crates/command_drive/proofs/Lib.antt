-- Read Written first: what is written reading by reading. Ways has the one induction over an honest
-- run; Named, Quiet and Ran are what it shows. Playing leads from what a part says to what is
-- written of it, Statuses has the exit status, Owing what is due of some lines, and Said what follows
-- for the whole command. Numbers and Replaying: the lines that are written are read as the same lines.
pub mod Between
pub mod Named
pub mod Numbers
pub mod Owing
pub mod Playing
pub mod Quiet
pub mod Ran
pub mod Replaying
pub mod Said
pub mod Sensors
pub mod Statuses
pub mod Telling
pub mod Ways
pub mod Written
