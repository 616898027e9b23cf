-- Begin with Deployment: the order of the rules. Counts (6), Sources (7), Checks (8), Ties (9) and
-- Places (10) are the rules, Law is what holds of what they let through, and the files of Seen what
-- contracts see in memory.
pub mod Counts
pub mod Sources
pub mod SourceErrors
pub mod Checks
pub mod Seen
pub mod Ties
pub mod SeenPort
pub mod Places
pub mod SeenSections
pub mod Ends
pub mod Deployment
pub mod SeenDeployment
pub mod Law
