-- Read tie first: the tie of Tied is the invariant of a run. ActsKeep: every act keeps it; ActsWalk: what
-- more holds of each item where it is. RunsInOrder puts the parts together, turns has what holds of
-- each item, and AcceptedRuns goes on from a text. RenewsAsTheModel is of the deployer alone.
pub mod Tags
pub mod tie
pub mod steps
pub mod acts
pub mod ActsKeep
pub mod ActsWalk
pub mod RunsInOrder
pub mod RunsLegal
pub mod turns
pub mod RunsFinish
pub mod RunsTakeBehind
pub mod accepted
pub mod AcceptedRuns
pub mod RenewsAsTheModel
