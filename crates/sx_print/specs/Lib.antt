-- Begin with Pieces: the printed text of a module. Printable is which modules have one; Written is
-- for contracts of functions.
pub mod Printable
pub mod Pieces
pub mod Written
