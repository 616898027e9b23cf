-- Begin with Compiled: a module's stack code, text and image. Laws says what holds of it; Body is
-- the handlers alone.
pub mod Compiled
pub mod Laws
pub mod Body
