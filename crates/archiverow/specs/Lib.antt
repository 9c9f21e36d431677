pub mod Rows
pub mod Spellings
pub mod Read
