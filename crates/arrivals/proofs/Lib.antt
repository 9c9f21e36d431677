pub mod Alike
pub mod Enough
pub mod Used
pub mod Arrived
pub mod Sample
