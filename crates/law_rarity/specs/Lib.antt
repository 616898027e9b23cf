-- Begin with Tables: random numbers in place of tags. Rare is the law on them, Covering lists the
-- entries of all answers, and Erring says of a distinguisher how seldom it errs. Accepted
-- does so from a deployment's text on. Places has other keys in the place of those of connections. Once: no pad is used twice.
pub mod Tables
pub mod Names
pub mod Rare
pub mod Covering
pub mod Erring
pub mod Accepted
pub mod Once
pub mod Places
