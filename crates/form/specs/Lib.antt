pub mod Rows
pub mod Making
pub mod Form
pub mod Lines
