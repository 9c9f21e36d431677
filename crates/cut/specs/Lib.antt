pub mod Draw
pub mod Sums
pub mod Document
pub mod Paper
pub mod Laws
