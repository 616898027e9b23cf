-- Begin with Meanings: what a deployment's text means. Found and Begun are of the head; Ends,
-- Headless and Refused of a command that ends without a deployment; Given and Wanting of the lines
-- after the head, and of those at which memory may run out.
pub mod Found
pub mod Begun
pub mod Ends
pub mod Given
pub mod Headless
pub mod Meanings
pub mod Refused
pub mod Wanting
