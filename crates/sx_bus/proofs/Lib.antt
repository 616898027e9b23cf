-- Bytes and Blank are of memory, Changed and Elsewhere of devices.
pub mod Bytes
pub mod Blank
pub mod Changed
pub mod Elsewhere
