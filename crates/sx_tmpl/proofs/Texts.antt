-- From the operations to the whole text of a code, and to nodes on which it is.
pub mod Named
pub mod Whole
pub mod Placing
pub mod TextBytes
pub mod TextPlaces
pub mod TextStands
pub mod Made
pub mod SoundOps
pub mod Entering
pub mod TextTurns
pub mod Fitting
pub mod Going
pub mod Performing
pub mod Resuming
pub mod Noted
