pub mod Tests
pub mod Layouts
pub mod Counts
pub mod Sizes
