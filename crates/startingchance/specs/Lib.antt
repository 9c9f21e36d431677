pub mod Chance
pub mod Laws
