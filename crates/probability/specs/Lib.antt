pub mod Probability
pub mod Laws
