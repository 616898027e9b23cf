-- Begin with Tree: the syntax tree as plain data. Sizes has the language's formulas, Form and Words
-- which names and numbers there are, View and Padded what contracts see in memory.
pub mod Form
pub mod Words
pub mod Padded
pub mod Tree
pub mod View
pub mod Sizes
