-- One file: a truth value as a number.
pub mod Truth
