-- Places: where a name is in a list. Index: what an index of the list is.
pub mod Places
pub mod Index
