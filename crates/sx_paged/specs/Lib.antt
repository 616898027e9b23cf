-- Begin with Memory: a memory by its 256 pages. Paged is how an arena keeps it.
pub mod Laws
pub mod Paged
pub mod Memory
