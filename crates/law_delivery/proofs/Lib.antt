-- Statements: specs/Laws. Fitting: the lines. Making and Taking: what an event makes of its acts, and its takes. Leaving, Waits and Serving:
-- what a settled world needs; Calling puts them together for any call. Sampled is a reading, Received a delivery, Joined the whole run, and
-- Accepted begins at an accepted text. ByLine is what each line shows, Oldest where a delivery's packet is and goes.
pub mod ByLine
pub mod Taking
pub mod Making
pub mod Leaving
pub mod Waits
pub mod Serving
pub mod Calling
pub mod InWords
pub mod Effects
pub mod Going
pub mod Oldest
pub mod Found
pub mod Sampled
pub mod Received
pub mod Fitting
pub mod Joined
pub mod Accepted
