-- Begin with Realizes: what it means that an image realizes its module, over Image, Watched and
-- Reach, a goal that is reached within a bound while a fact holds. InMemory is what contracts see.
pub mod Reach
pub mod Watched
pub mod Image
pub mod InMemory
pub mod Realizes
