pub mod Telling
pub mod Reading
pub mod Makes
pub mod Turns
pub mod Sizes
