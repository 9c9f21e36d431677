pub mod Seen
pub mod Outputs
