pub mod Slots
pub mod Layout
pub mod Stands
