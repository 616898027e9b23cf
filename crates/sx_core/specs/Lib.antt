-- Begin with Quickly: what a step on the short way answers and leaves.
pub mod Quickly
-- the places that an extension word tells
pub mod Places
