-- Begin with Topics: what is heard of an item. Watched says what a property makes of it, and when
-- it is broken. Text has what a property's text means, over Words and Rewriting. Watching, Parts
-- and Read are for contracts of functions.
pub mod Topics
pub mod Watched
pub mod Words
pub mod Rewriting
pub mod Text
pub mod Laws
pub mod Parts
pub mod Read
pub mod Watching
