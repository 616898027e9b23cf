-- Begin with ItemsDiffer: each item has a line of its own. Said: a line in which an item is read
-- is that item's. Known and Valid are of names, Cut and Written of texts.
pub mod Cut
pub mod ItemsDiffer
pub mod Known
pub mod Said
pub mod Valid
pub mod Written
