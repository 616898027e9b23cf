-- Rules in general: Stage, in which entries become entries of another type, Lines, the table of a
-- rule, Fault, how a stage ends, Text, what is written of a fault, and Gives, the answer in code.
-- Then in the order of the rules: Documents (3), Rows and Arrays (4), Entries (5). Law is what then
-- holds of the entries; Fields and Seen are what code and document have in common.
pub mod Fault
pub mod Gives
pub mod Stage
pub mod Lines
pub mod Text
pub mod Documents
pub mod Fields
pub mod Rows
pub mod Arrays
pub mod Seen
pub mod Entries
pub mod Law
