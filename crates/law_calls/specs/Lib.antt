-- Begin with Calls: one call does what its invocation says, with what Shown makes of marks.
-- FourCalls is what comes out at the four entries.
pub mod Shown
pub mod Calls
pub mod Laws
pub mod FourCalls
