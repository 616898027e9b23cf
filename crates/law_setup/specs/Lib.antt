-- Begin with Schedule: the set-up's lines. Laws: what they show. Worked is an example.
pub mod Schedule
pub mod Laws
pub mod Worked
