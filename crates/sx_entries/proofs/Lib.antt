-- Begin with EntriesKeep: what holds of entries that the rules let through, by Kept and RowForms.
-- Tested and Each say what follows if no entry breaks a line, Mapped the same of entries that are
-- seen as others. FieldLemmas, Texts and Listing are of code.
pub mod Tested
pub mod Mapped
pub mod Each
pub mod FieldLemmas
pub mod Texts
pub mod RowForms
pub mod Listing
pub mod Kept
pub mod EntriesKeep
