-- Begin with Plain: what an application does with readings. Course is the items of an honest run,
-- Delivers and Told what they deliver. Worked is an example.
pub mod Plain
pub mod Course
pub mod Told
pub mod Delivers
pub mod Laws
pub mod Worked
