-- Begin with StubInvokes: the whole stub, from SetKey, Attest, Input and Sample, a file for each
-- entry, over Straight, Refuse, Chain, Search and Receive. JoinedInvokes puts the handlers after
-- it; StubSound and StubFits say that templates can be made for it.
pub mod Mem
pub mod Straight
pub mod Slots
pub mod Refuse
pub mod Chain
pub mod Receive
pub mod Attest
pub mod Packets
pub mod Ends
pub mod Search
pub mod SetKey
pub mod Handling
pub mod Input
pub mod Sample
pub mod StubInvokes
pub mod JoinedInvokes
pub mod StubFits
pub mod Plain
pub mod Fit
pub mod StubSound
pub mod Steps
pub mod Few
pub mod Made
