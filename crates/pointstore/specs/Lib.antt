pub mod Refusals
pub mod Puts
