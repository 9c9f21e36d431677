pub mod Slots
pub mod Stream
pub mod Turns
pub mod Answers
