-- Begin with Parts: the parts of the plans of module instructions. Told is what such an instruction
-- is given and answers.
pub mod Told
pub mod Parts
