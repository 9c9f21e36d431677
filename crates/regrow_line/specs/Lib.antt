pub mod Answered
pub mod Archive
