-- Begin with Parsed: what `parse` answers. Wanted, Reading, Adding and Declaring say what reading a
-- part does to the machine of the grammar.
pub mod Parsed
pub mod Wanted
pub mod Reading
pub mod Adding
pub mod Declaring
