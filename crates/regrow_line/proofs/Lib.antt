pub mod Lines
pub mod Archive
