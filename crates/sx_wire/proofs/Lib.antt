-- Begin with Spelled: packets with the same bytes are the same. The others are of bytes and words.
pub mod Fields
pub mod Numbers
pub mod Parts
pub mod Spelled
pub mod Words
