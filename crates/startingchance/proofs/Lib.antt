pub mod Fill
pub mod Ends
pub mod Range
