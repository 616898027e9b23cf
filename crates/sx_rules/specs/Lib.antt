-- Begin with Access: what code may do to a byte. Admission is which sections are admitted, Placed
-- what then holds of all sections of a table. Words and Pages are of more bytes than one.
pub mod Access
pub mod Words
pub mod Admission
pub mod Pages
pub mod Placed
pub mod Laws
pub mod Unused
