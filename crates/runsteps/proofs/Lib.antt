pub mod Widths
pub mod Replies
pub mod Capacity
pub mod Plain
pub mod Arrival
pub mod Asks
pub mod Works
