pub mod Words
pub mod Cuts
pub mod Floats
pub mod Sequences
