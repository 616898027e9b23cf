-- Begin with Hits, over Lines and Sums: most of a line of tables survive. Playing makes a process a
-- play, and Mixing is about pads.
pub mod Sums
pub mod Lines
pub mod Hits
pub mod Mixing
pub mod Playing
pub mod Meeting
