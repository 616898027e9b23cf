-- Begin with Faults: what each command says of reads and writes that fail, and Ended: that it took
-- its whole input. Output, Refusals and Address have the lines that commands share. Batch and Keeping
-- are for contracts of functions.
pub mod Address
pub mod Batch
pub mod Keeping
pub mod Faults
pub mod Ended
pub mod Output
pub mod Refusals
