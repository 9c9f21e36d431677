pub mod Arrays
pub mod Finds
pub mod Edits
pub mod Enters
