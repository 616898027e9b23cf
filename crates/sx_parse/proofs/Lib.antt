-- One file for each kind of part: Expressions, Statements, Declarations, Handlers, with Signs;
-- Modules puts their answers together.
pub mod Signs
pub mod Expressions
pub mod Statements
pub mod Declarations
pub mod Handlers
pub mod Modules
