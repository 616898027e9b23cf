-- Read LinksUnseen first, over Unlinked, which says what two settings have in common whose
-- connections have keys of their own. Unlinks says that there are such settings, Found what a guess
-- then is, and Choices which choices of other keys there are. Laws has the first two of every sound
-- setting, and Accepted the first from a deployment's text on; Compiles says that a compiler's
-- images do for both. Worked has a case that meets the premises.
pub mod Unlinked
pub mod LinksUnseen
pub mod Unlinks
pub mod Found
pub mod Choices
pub mod Laws
pub mod Compiles
pub mod Accepted
pub mod Worked
