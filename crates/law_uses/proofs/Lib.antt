-- Asking has what two runs ask alike, Stepping and Answering a step and an answer, Alone the run.
-- Giving and Logged are about what is given, Trying and Hit about what is tried.
pub mod Asking
pub mod Stepping
pub mod Answering
pub mod Keeping
pub mod Alone
pub mod Giving
pub mod Logged
pub mod Whole
pub mod Unasked
pub mod Fresh
pub mod Trying
pub mod Hit
