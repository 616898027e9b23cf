-- Begin with Step, which items the source allows, and Legal, the runs of it, over State, Reaction
-- and Renewal; order is the same with acts in their order. Consequences is what a reader may take
-- from a legal trace. Worked has examples; Changes, Sendings, Counted and Memory are for contracts
-- of functions.
pub mod State
pub mod Reaction
pub mod Renewal
pub mod Step
pub mod Epochs
pub mod Legal
pub mod order
pub mod Consequences
pub mod Worked
pub mod Laws
pub mod Changes
pub mod Memory
pub mod Sendings
pub mod Counted
