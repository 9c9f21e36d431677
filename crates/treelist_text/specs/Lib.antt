pub mod Output
pub mod Running
