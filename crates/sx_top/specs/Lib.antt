-- Begin with Promise: what the program promises. Commands says which command the words name,
-- Chosen what holds of it, and Laws what holds of two commands together.
pub mod Commands
pub mod Laws
pub mod Chosen
pub mod Promise
