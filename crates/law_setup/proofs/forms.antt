-- The forms of the set-up, which nobody has to believe. Begin with Settled: a world that is as the course of
-- an honest run says. ByLine is what each line shows; the others say what each line, and each part of the lines, does.
pub mod Loaded
pub mod Served
pub mod Acting
pub mod Attesting
pub mod PartDone
pub mod Settled
pub mod ByLine
