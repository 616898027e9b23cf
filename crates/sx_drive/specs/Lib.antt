-- Begin with Honest: the lines of an honest run, as they follow from what was shown.
pub mod Honest
pub mod Driving
