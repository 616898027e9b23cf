-- Two developments. That keys are unseen: Tables to Scripts, lowest first, Naming and Tabling; begin
-- with Scripts, where two worlds that differ in keys go side by side. What a first `forged` is: begin
-- with Unmade, whose record Holds has what is so at each moment before it.
pub mod Tables
pub mod Plans
pub mod Instructions
pub mod Steps
pub mod Acting
pub mod Granting
pub mod Scripts
pub mod Naming
pub mod Tabling
pub mod Turns
pub mod Turning
pub mod Reaching
pub mod Opening
pub mod Packets
pub mod Fields
pub mod Sending
pub mod Logging
pub mod Forging
pub mod Accepting
pub mod Keyed
pub mod Keeping
pub mod Boots
pub mod Forgeries
pub mod Showing
pub mod Unmade
