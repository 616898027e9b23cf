-- Begin with State and Step, what one step does: by Plan and Run, what an instruction asks for and
-- how it is executed, and by Rows and ModuleRows, the plan of each instruction. Acts is what is
-- done from outside. Guard and Guarding, Node, Touches, Events, Frame and Doing are what the laws
-- say.
pub mod Memory
pub mod State
pub mod Plan
pub mod Run
pub mod Registers
pub mod Rows
pub mod Ranges
pub mod Given
pub mod Protect
pub mod ModuleRows
pub mod Modules
pub mod Step
pub mod Acts
pub mod Guard
pub mod Guarding
pub mod Acting
pub mod Node
pub mod NodeLaws
pub mod Touches
pub mod Events
pub mod Frame
pub mod Doing
pub mod Answers
pub mod Laws
