-- Begin with Rights: what a test says of the access table. Reach, Clear and Open are of places that
-- may be touched, Words of bytes that are written two at a time, Homes and Gaps of places that need no
-- test, Readable of those that all code may read, Vacant and Deep of instructions that need none, Marking
-- of the marks of vacant pages.
pub mod Reach
pub mod Rights
pub mod Clear
pub mod Open
pub mod Stretch
pub mod Words
pub mod Homes
pub mod Gaps
pub mod Vacant
pub mod Deep
pub mod Readable
pub mod Marking
