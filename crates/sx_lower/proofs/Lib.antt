-- Begin with Reacts: a handler's part does the handler; by Statements, Packets and Run, over Holds,
-- a private section that holds a source state. Sounds and Sizes are of the code, Puts and Parts of
-- how it is made.
pub mod Sizes
pub mod Puts
pub mod Parts
pub mod Accepted
pub mod Rules
pub mod Bytes
pub mod Slots
pub mod Source
pub mod Holds
pub mod Run
pub mod Packets
pub mod Statements
pub mod Sounds
pub mod Reacts
pub mod LoweredMoves
pub mod Cases
