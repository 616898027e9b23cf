-- An accepted deployment with images that realize its modules is a sound setting. Begin with Settled.
pub mod Windows
pub mod DeviceWords
pub mod LaidSites
pub mod Settled
pub mod FormedLines
