-- Begin with Spells: what is written is the module's text, and spells it. Stands is that its words
-- are as the module, Read and Good that the text is read as these words, Forms and Parts how it
-- is written.
pub mod Parts
pub mod Forms
pub mod Lone
pub mod Spelled
pub mod Read
pub mod Good
pub mod Stands
pub mod Spells
