pub mod Rows
pub mod Tells
pub mod Rest
pub mod Spellings
