-- Steps of a module in mid-run: what memory holds, what an instruction owes, and what it leaves.
pub mod MidRun
pub mod Owned
pub mod Mem
pub mod Owes
pub mod Steps
pub mod Flags
pub mod Holding
pub mod Entered
pub mod Outcomes
pub mod Instructions
pub mod Loading
