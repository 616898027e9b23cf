-- Begin with Rules: the ten rules. Names, Uses and Bounds are what they speak of, Accepted what
-- holds of a module that breaks none; Source, Scopes and Seen are what contracts see.
pub mod Names
pub mod Uses
pub mod Listed
pub mod Scopes
pub mod Seen
pub mod Bounds
pub mod Rules
pub mod Source
pub mod Accepted
