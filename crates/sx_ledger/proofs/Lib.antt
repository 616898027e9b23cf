-- Order and Sets say that the ledger's order makes it a set of entries.
pub mod Order
pub mod Sets
