pub mod Heard
pub mod Steps
pub mod Answered
pub mod Claim
