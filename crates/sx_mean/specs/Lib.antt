-- Begin with Meaning, what expressions and statements mean, and React, what a module does at an
-- event. Application is what modules make together, Ends its connections at each module, Validity
-- when it is one; Offsets and Working lay out a private section. Worked has an example.
pub mod Places
pub mod Sized
pub mod Offsets
pub mod Working
pub mod Meaning
pub mod React
pub mod View
pub mod Application
pub mod Validity
pub mod Packets
pub mod Valid
pub mod Ends
pub mod EndLaws
pub mod Handlers
pub mod Scope
pub mod Acts
pub mod Words
pub mod Variables
pub mod Worked
