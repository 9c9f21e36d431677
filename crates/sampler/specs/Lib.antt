pub mod Heap
pub mod Sample
