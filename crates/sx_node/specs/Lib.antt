-- One file: what a step tells, where it says whether anything is seen.
pub mod Telling
