pub mod Ends
pub mod Sides
pub mod Contained
pub mod Wholes
pub mod Smallest
pub mod Padding
