-- Begin with Memory, the bytes, and Devices, the words that are no memory. Windows is how a node
-- keeps its devices.
pub mod Memory
pub mod FlatBus
pub mod Devices
pub mod Windows
