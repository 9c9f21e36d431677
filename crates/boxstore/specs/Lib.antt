pub mod Boxed
pub mod Written
pub mod Grown
pub mod Above
pub mod Edited
