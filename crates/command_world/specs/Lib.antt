-- Begin with Compiled, which images there are of a deployment, and Schedule, from the lines of an
-- input to the lines of a schedule. Images has the lines that show images, Items those that show
-- items; Status and WellFormed say when an input is run to its end. Built and Turning are for
-- contracts of functions.
pub mod Built
pub mod Compiled
pub mod Images
pub mod Items
pub mod Schedule
pub mod Broken
pub mod Turning
pub mod WellFormed
pub mod Status
