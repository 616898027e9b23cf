-- Begin with Makers. LinkMakers has makers who don't see into deployed modules, Time what the number
-- of instructions shows, Impostors what an identity tells, and NamedSound that names make no
-- difference to soundness.
pub mod Makers
pub mod LinkMakers
pub mod Time
pub mod Impostors
pub mod NamedSound
