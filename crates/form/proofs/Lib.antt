pub mod Fields
pub mod Rows
pub mod MakingRow
pub mod Lines
pub mod Blocks
pub mod Tells
pub mod Read
pub mod Sizes
