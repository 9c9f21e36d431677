pub mod Sampled
pub mod Arrivals
