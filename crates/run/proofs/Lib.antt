pub mod Given
pub mod Turns
pub mod Source
pub mod Starts
pub mod Makings
pub mod Checking
