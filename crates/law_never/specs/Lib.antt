-- Begin with Never: what it means that no run breaks a property. Nothing else here need be
-- believed.
-- Tables says where an application may be in a row, Closed when no item leads out of a table,
-- Laws
-- what that shows; Check and Demands are the check of the proofs, and Same has that the code's is
-- it.
pub mod Never
pub mod Kept
pub mod Rules
pub mod Intervals
pub mod Tables
pub mod Closed
pub mod Check
pub mod Demands
pub mod Laws
pub mod Same
