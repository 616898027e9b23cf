-- Begin with Reassembles and Listings: what is shown is assembled to its bytes, over ShownTokens
-- and ShownOperands. Growing, Labelled, Lines and Standing are of the assembler, Examples compute.
mod Examples
pub mod Numbers
pub mod WordKinds
pub mod Runs
pub mod Tables
pub mod Growing
pub mod Labelled
pub mod Lines
pub mod Forms
pub mod Standing
pub mod Parts
pub mod ShownTokens
pub mod ShownOperands
pub mod Reassembles
pub mod Listings
pub mod Bytes
