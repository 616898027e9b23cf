-- Begin with Items: the lines of items, over Names. KnownItems and ValidNames say which there can
-- be, Seen how names are kept. Finding and Written are for contracts of functions.
pub mod Finding
pub mod Items
pub mod KnownItems
pub mod Written
pub mod Laws
pub mod Names
pub mod ValidNames
pub mod Seen
