-- What holds of every run beside Legal. Begin with Step and Legal: the model's own, but each act of
-- a handler comes in its order, so what it emits before it sends is put out before the word can be
-- taken. Turns: a node shows one event at a time. Given: values are in range. Worked has an example.
pub mod State
pub mod Reaction
pub mod Step
pub mod Legal
pub mod Turns
pub mod Given
pub mod Worked
pub mod Laws
