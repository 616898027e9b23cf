-- Begin with Form, what is said is in form, and SaidTexts, the text of a line says it. The others
-- are of words and numbers in a line.
pub mod Answered
pub mod Blanks
pub mod Decimals
pub mod Form
pub mod Hexadecimals
pub mod SaidTexts
pub mod Spaced
pub mod Texts
