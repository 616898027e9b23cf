-- Begin with Accepted: what the ten rules give. Named and Meets are of names that are found by an
-- index; Keeps, Places, Distinct, Misused and Turns are what else the code needs.
pub mod Turns
pub mod Misused
pub mod Places
pub mod Keeps
pub mod Distinct
pub mod Named
pub mod Meets
pub mod Accepted
