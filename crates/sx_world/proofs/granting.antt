-- What the program's deployer keeps, and the packets and grants that it gives.
pub mod SameKeys
pub mod Sent
pub mod SameGrants
pub mod Given
pub mod Confirming
