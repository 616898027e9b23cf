-- Begin with Invokes: what it means that stack code does an invocation. Stub is the entry protocol
-- as stack code, Joined with the handlers after it; Weight and Sound say that it fits.
pub mod Stub
pub mod Invokes
pub mod Joined
pub mod Weight
pub mod Sound
pub mod Stubs
pub mod Puts
