pub mod Places
pub mod Ways
pub mod Moves
pub mod Counts
pub mod Order
pub mod Weights
