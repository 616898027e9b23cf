-- Begin with Granting: what the deployer knows, asks and grants. Keeping is what its code keeps of
-- that.
pub mod Granting
pub mod Keeping
pub mod Laws
