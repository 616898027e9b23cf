-- Begin with PlanGuard: the one induction over plans. StepGuard, ActGuard and RunGuard lead from it
-- to runs; Sections, Stays, Touches, Frame, Keys, Boots and RunsByTable are a law each, and the
-- others what these need.
pub mod PlanGuard
pub mod ProtectGuard
pub mod UnprotectGuard
pub mod ModuleGuard
pub mod StepGuard
pub mod ActGuard
pub mod Sections
pub mod RunGuard
pub mod Boots
pub mod Registers
pub mod Devices
pub mod Ranged
pub mod Events
pub mod Apart
pub mod Stays
pub mod Touches
pub mod Sparse
pub mod Attribution
pub mod Meanings
pub mod Frame
pub mod PublicKept
pub mod Keys
pub mod RunsByTable
pub mod DoesWhatStands
pub mod Lengths
pub mod BytesFrom
pub mod SameRights
