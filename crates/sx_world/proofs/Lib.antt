-- Read doing first: what an act makes of the world that the program shows. World::act is answered from standing.
pub mod doing
pub mod passing
pub mod granting
pub mod standing
