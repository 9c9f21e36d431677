pub mod Archive
pub mod OfCode
pub mod Example
