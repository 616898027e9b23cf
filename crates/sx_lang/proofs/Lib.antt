-- Nodes and Rows are of statements that hold blocks, Cost of their formulas, Form and Stored of
-- names.
pub mod Form
pub mod Stored
pub mod Rows
pub mod Nodes
pub mod Cost
