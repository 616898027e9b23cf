-- Begin with Intervals; Operators, Ranges, Narrow and Paths follow, and Sound says what holds of
-- them.
pub mod Intervals
pub mod Operators
pub mod Ranges
pub mod Narrow
pub mod Paths
pub mod View
pub mod Sound
pub mod Worked
