-- Begin with Assembled: the code of a text, or its first fault; over Reading, from the text to its
-- items, Tokens, Grammar and Meaning. Shown and Listing are the way back. Fronts, Forms and Adding
-- are for contracts of functions.
pub mod Fronts
pub mod Forms
pub mod Adding
pub mod Words
pub mod Tokens
pub mod Entries
pub mod Grammar
pub mod Reading
pub mod Meaning
pub mod Assembled
pub mod Answers
pub mod Shown
pub mod Listing
pub mod Laws
pub mod Faults
