-- Known: what the texts mean.
pub mod Known
