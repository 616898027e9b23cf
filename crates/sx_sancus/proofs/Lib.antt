-- Begin with Rows: module instructions by their codes. Padding and Stretches are of the bytes that
-- tags cover.
pub mod Padding
pub mod Rows
pub mod Stretches
