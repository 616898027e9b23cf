-- Begin with Promise and Tells: what the commands promise. Output and Lines have what they write,
-- and their status; Laws says that both run the same. Turns is for contracts of functions.
pub mod Laws
pub mod Lines
pub mod Output
pub mod Promise
pub mod Tells
pub mod Turns
