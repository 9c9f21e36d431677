pub mod Stack
pub mod Rows
