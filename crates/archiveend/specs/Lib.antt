pub mod End
pub mod Prints
