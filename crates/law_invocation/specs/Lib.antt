-- Begin with Gives: an invocation returns with all done. Effect is what acts make, Laws what the
-- four entries give.
pub mod Effect
pub mod Gives
pub mod Laws
