pub mod Digits
pub mod Writes
pub mod Placed
pub mod Lengths
pub mod Back
