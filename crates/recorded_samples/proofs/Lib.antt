pub mod Heaps
pub mod Arrivals
pub mod Samples
