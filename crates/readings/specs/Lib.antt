pub mod Coordinate
pub mod Weight
pub mod Share
pub mod Word
pub mod Narrow
pub mod Number
