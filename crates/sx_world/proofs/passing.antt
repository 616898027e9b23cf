-- Steps of a node: one by one (Going, Stepped), and those that show nothing in one go
-- (Passed), counted down (Counted).
pub mod Going
pub mod Stepped
pub mod Passed
pub mod Counted
