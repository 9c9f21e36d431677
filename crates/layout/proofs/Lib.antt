pub mod Tabs
pub mod Slots
pub mod Replaced
pub mod Trails
pub mod Rows
pub mod Forks
pub mod Counts
pub mod Ranges
