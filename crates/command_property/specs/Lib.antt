-- Begin with Meant: what a property's text means to a command. Refused has what is written of one
-- that breaks a rule, Input what of a whole input.
pub mod Input
pub mod Meant
pub mod Refused
