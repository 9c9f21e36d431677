pub mod Outcome
pub mod Running
pub mod Makes
pub mod Words
