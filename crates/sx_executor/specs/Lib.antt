-- Begin with Machine: what instructions run on, and what they leave of it. Shortcuts is what an
-- instruction does, kept with its first word; Homes and Gaps say where no section need be asked, Readable where all code
-- may read, Occupancy where no device need be asked either.
pub mod Gaps
pub mod Homes
pub mod Machine
pub mod Occupancy
pub mod Readable
pub mod Reads
pub mod Shortcuts
