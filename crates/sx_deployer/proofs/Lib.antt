-- Begin with Granted, the packets that are given. Raised and Firsts are of the epochs.
pub mod Granted
pub mod Raised
pub mod Firsts
