-- Begin with Meaning: what each operation does to a configuration (Conf). Sizes and Counts are of
-- its template, Sound what templates ask of code, Invoking how configurations stand for an
-- invocation.
pub mod Counts
pub mod Sizes
pub mod Conf
pub mod Meaning
pub mod Sound
pub mod Invoking
pub mod Joined
