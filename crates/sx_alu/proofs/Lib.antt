-- One file: the bits of the status register that are no flags.
pub mod KeptBits
