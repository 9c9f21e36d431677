pub mod State
pub mod Answers
pub mod Finds
pub mod Making
pub mod Queries
pub mod Standing
