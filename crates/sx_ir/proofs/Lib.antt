-- Appended: the bytes of operations that follow others. Changed: a list whose elements are changed.
pub mod Appended
pub mod Changed
pub mod Shown
