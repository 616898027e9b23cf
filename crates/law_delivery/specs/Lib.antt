-- Begin with Schedule: the lines after the set-up. Laws: what they show.
pub mod Schedule
pub mod Laws
