-- What the proofs of several functions use.
pub mod Slots
pub mod Pairs
pub mod Walks
