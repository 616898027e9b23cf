-- Begin with Lines, the lines of a schedule, and Reading, what a text says as one. InForm is which
-- lines a deployment can have, Written the text of a line; HexText and Answers are for contracts of
-- functions.
pub mod HexText
pub mod Lines
pub mod Seen
pub mod Reading
pub mod Answers
pub mod InForm
pub mod Laws
pub mod Words
pub mod Written
