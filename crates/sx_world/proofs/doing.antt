-- What one act makes of the world that the program shows. Begin with Doing; Composed puts acts together.
pub mod NodeAt
pub mod Doing
pub mod Composed
pub mod KeptPackets
pub mod Loaded
pub mod Placing
pub mod Sampled
pub mod Prepared
