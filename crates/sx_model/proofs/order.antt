-- Begin with Steps: what holds of each item that is allowed in order. Sides: what is legal in order is
-- legal, over Fields (what acts make of the words sent), Owners (whose a field is), Unsent (a field
-- that its sender opens has no words) and Views (ends after a change).
pub mod Steps
pub mod Idle
pub mod Fields
pub mod Owners
pub mod Unsent
pub mod Views
pub mod Sides
pub mod OrderIsKept
pub mod TurnsAreKept
