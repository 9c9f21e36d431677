pub mod Edits
pub mod Puts
pub mod Queries
