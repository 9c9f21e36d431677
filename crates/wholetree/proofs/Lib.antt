pub mod Readings
pub mod Zeros
pub mod Draws
pub mod Laws
pub mod Boxes
pub mod Paper
pub mod Demand3
