-- Begin with Sound: each accepted deployment is sound, by Accepted, Parts, Linked, Apart and Laid,
-- what each rule gives. Meanings: a text has one meaning. Accepts leads to what is in memory.
pub mod Accepted
pub mod Accepts
pub mod Apart
pub mod Counted
pub mod Begun
pub mod Bytes
pub mod Drivers
pub mod Held
pub mod Few
pub mod Laid
pub mod Linked
pub mod Mapped
pub mod Meanings
pub mod Outcomes
pub mod Pairs
pub mod Parts
pub mod Ports
pub mod Sizes
pub mod Sound
pub mod ValidApp
pub mod ValidNames
