-- Making and Looking are about makers, Timing about instructions, Impostors about identities.
pub mod Making
pub mod Looking
pub mod Timing
pub mod Impostors
pub mod NamedSound
