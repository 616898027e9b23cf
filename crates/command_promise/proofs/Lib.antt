-- Begin with Laws: how what the parts say comes together. Takings is what was taken line by line,
-- Further how far a command reads, with Due and Endings. Turns is how a head comes, line by line.
pub mod Due
pub mod Endings
pub mod Further
pub mod Laws
pub mod Takings
pub mod Turns
