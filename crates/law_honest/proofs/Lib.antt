-- Statements: specs/Laws. Playing: what a part of the run says, and how parts compose; Staying:
-- that nothing is said once a line was left out. Handing: the lines of one module; SettingUp: the
-- set-up; Tracking: readings and deliveries, along the course. Enough and First: how many
-- deliveries are made at most is no limit. Driven puts them together, and Accepted begins at an
-- accepted text.
pub mod Playing
pub mod Staying
pub mod Handing
pub mod SettingUp
pub mod Enough
pub mod First
pub mod Tracking
pub mod Driven
pub mod Accepted
