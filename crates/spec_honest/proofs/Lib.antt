-- Begin with Agreement: where the source model agrees with the course; Setup, Events, Sending
-- and Agreed keep it, Course leads it along all readings. Honest and AsPlain are the laws.
pub mod Agreement
pub mod Computed
pub mod Lists
pub mod Course
pub mod AsPlain
pub mod Sending
pub mod Events
pub mod Views
pub mod Agreed
pub mod Setup
pub mod Honest
pub mod Fuel
