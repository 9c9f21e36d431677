pub mod Stream
pub mod Filled
pub mod Pairs
