pub mod Archive
pub mod OfCode
