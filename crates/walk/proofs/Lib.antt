pub mod Paths
pub mod Ends
