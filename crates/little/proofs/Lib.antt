pub mod Patterns
pub mod Stored
