-- Begin with Uses: what a moment asks of the tag function. UsesAlone and Whole say that a run depends
-- on nothing else, GivenLogged and Fresh what was given, Unasked, Tried and Hit what was tried.
pub mod Uses
pub mod UsesAlone
pub mod GivenLogged
pub mod Whole
pub mod Unasked
pub mod Fresh
pub mod Tried
pub mod Hit
