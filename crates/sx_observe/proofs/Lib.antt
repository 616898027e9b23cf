-- What a step shows, as the code finds it: the items that are due (Fronts), the ledger as a set of entries (Recorded), and whose code it was (Runners).
pub mod Drivers
pub mod Fronts
pub mod Recorded
pub mod HeldEnds
pub mod SameBytes
pub mod Untouched
pub mod Runners
pub mod Recognizing
pub mod SitesOf
