-- Indexed: an index after one more name. Placed: what the place of a name says of the list.
pub mod Indexed
pub mod Placed
