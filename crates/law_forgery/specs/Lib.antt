-- Read Moments, Forgery and Logged first for what a `forged` says, and Tags, Bare and Unseen for
-- what keys show. Named says that the premise of the second can be met.
pub mod Tags
pub mod Bare
pub mod Unseen
pub mod Named
pub mod Moments
pub mod Forgery
pub mod Logged
pub mod Accepted
