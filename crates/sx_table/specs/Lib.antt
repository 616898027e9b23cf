-- Begin with Rows: what a table holds. Demands says what an item asks of the next row, and Leads
-- where a
-- property goes; Shut is the check. Each definition is that of the function of Rust of the same
-- name.
pub mod Boxes
pub mod Places
pub mod Stays
pub mod Rows
pub mod Demands
pub mod Leads
pub mod Made
pub mod Shut
