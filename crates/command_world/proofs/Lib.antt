-- Begin with Building: the images that the compiler gives realize the modules. Powering is of the
-- nodes as they are switched on, Stops of a schedule's status, Blocks of the digits of images,
-- ItemLines of the lines of items.
pub mod Blocks
pub mod Building
pub mod Bytes
pub mod ImageLines
pub mod ItemLines
pub mod Powering
pub mod Stops
