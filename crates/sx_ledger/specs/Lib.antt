-- Begin with Made: an entry of the ledger. Entries is how code keeps it.
pub mod Made
pub mod Entries
pub mod Laws
