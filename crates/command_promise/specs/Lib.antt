-- Begin with Told: a command's output is what is defined for the input that it took. Reads is how
-- much was taken, Further how far a command may read, Parts what the parts of a command say. Head is
-- the text before the first line `%%`, HeadRead what a call that reads it took.
pub mod Status
pub mod Further
pub mod Reads
pub mod Got
pub mod Told
pub mod Parts
pub mod Head
pub mod HeadRead
