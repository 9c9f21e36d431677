pub mod Entries
pub mod Sizes
pub mod States
