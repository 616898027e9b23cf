-- Begin with Sound (what the machine reads is in the grammar) and Complete, CompleteStatements and
-- OneModule (what is in the grammar is read). Faults, OneFault and Texts follow from both.
pub mod Complete
pub mod CompleteStatements
pub mod OneModule
pub mod Sound
pub mod Faults
pub mod Texts
pub mod OneFault
pub mod SpelledWords
