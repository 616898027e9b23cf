-- Begin with Invocation: one invocation by the entry protocol, in steps; Entries is what its four
-- entries do, Acts what a handler's acts do. Setup, ModuleState, Marks, Windows and Devices are
-- what they speak of, Protocol the numbers.
pub mod Protocol
pub mod Setup
pub mod ModuleState
pub mod Marks
pub mod Pieces
pub mod Windows
pub mod Devices
pub mod Progress
pub mod Acts
pub mod Entries
pub mod Invocation
pub mod Laws
