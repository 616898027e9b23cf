-- Where the program's world is: at the world of a run. Begin with Readying.
pub mod Readying
pub mod Continuing
pub mod SwitchedOn
