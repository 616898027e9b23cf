-- Ends: what follows for a command from what it wrote and read. Batches: texts that are written in
-- parts. Keeping: lines whose text is kept, to be written before a read.
pub mod Batches
pub mod Ends
pub mod Keeping
