-- Read forms first. Each line is proved in Loading, Acting, Answering and KeyTaking, one module in Attesting, KeyLoop and
-- PartDone, all of them in SoFar and SetUp.
pub mod forms
pub mod Bytes
pub mod Free
pub mod Loading
pub mod Packets
pub mod Acting
pub mod Answering
pub mod KeyTaking
pub mod Attesting
pub mod Runs
pub mod KeyLoop
pub mod PartDone
pub mod Sites
pub mod SoFar
pub mod SetUp
pub mod Accepting
pub mod Counting
pub mod Computed
