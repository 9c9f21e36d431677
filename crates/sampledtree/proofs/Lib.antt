pub mod Admits
pub mod Arrivals
pub mod Keeps
