pub mod Refusals
pub mod Rows
pub mod Puts
pub mod Empty
