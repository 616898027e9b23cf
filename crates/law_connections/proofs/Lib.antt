-- Two developments. That settings with other keys show the same: begin with Final and Lines, where
-- two worlds go side by side, line by line. One step of outside code in them is Stepping, over
-- Outside, Opened, Blind, Outsiders and Bystanding, which know one node alone; acts from outside are
-- Doing, over Touching; the deployer is Deploying. One step of a deployed module's turn is Going, over
-- Between: where it is entered in Entered, its invocation in Twice, the keys that it uses in KeysUsed;
-- what its marks show over the ledgers is Ledgers. AnyStep has both kinds of steps. That there are
-- settings with other keys: Moved to Compiling; what a guess then is, Guessing. Worked is a case that
-- meets the premises. Invoking and Realizing are about tag functions that are lawful where they make
-- tags.
pub mod Invoking
pub mod Realizing
pub mod Moved
pub mod Unlinking
pub mod Finding
pub mod Choosing
pub mod Compiling
pub mod Guessing
pub mod Outside
pub mod Opened
pub mod Blind
pub mod Outsiders
pub mod Bystanding
pub mod Touching
pub mod Alike
pub mod Pads
pub mod Twice
pub mod KeyPackets
pub mod Linking
pub mod Entered
pub mod Ledgers
pub mod Between
pub mod KeysUsed
pub mod Upto
pub mod Worlds
pub mod Doing
pub mod Deploying
pub mod Stepping
pub mod Going
pub mod AnyStep
pub mod Happenings
pub mod Lines
pub mod Final
pub mod Worked
