-- Begin with Headers: asks, and the headers of the other packets. Packets is how code reads and
-- writes them; Laws: a packet has one spelling.
pub mod Headers
pub mod Packets
pub mod Laws
