pub mod Words
pub mod Arrived
pub mod Sample
