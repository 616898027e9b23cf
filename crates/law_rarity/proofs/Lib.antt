-- Same, Extending and Making: two runs that go side by side until a use has another answer. Asked: what
-- the two ask. Entries and Tabled: tables of tags. Dealing, Whose, Words and Names: names tell modules.
-- Playing: a run is a blind player; Rare counts. Covering lists all entries, and Erring is about the
-- distinguisher. Once is about the ledger alone.
pub mod Same
pub mod Extending
pub mod Making
pub mod Asked
pub mod Entries
pub mod Tabled
pub mod Dealing
pub mod Whose
pub mod Words
pub mod Names
pub mod Playing
pub mod Rare
pub mod Covering
pub mod Lasting
pub mod Erring
pub mod Tracking
pub mod Once
pub mod Placing
pub mod Using
