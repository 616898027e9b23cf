-- Begin with Bulk: the lines of the workload. Laws: its deployment is accepted, and its lines keep
-- the rules.
pub mod Bulk
pub mod Laws
