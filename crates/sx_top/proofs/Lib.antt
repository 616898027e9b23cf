-- Begin with Usage: what the program says is what its command says. Again is of `run` on the lines
-- of `drive`.
pub mod Again
pub mod Usage
