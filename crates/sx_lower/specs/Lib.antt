-- Begin with Lowering: what it means that lowered code does what the source does. Lowered is the
-- code itself, Moved code at another place.
pub mod Lowered
pub mod Lowering
pub mod Moved
