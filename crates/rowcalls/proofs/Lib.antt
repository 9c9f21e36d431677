pub mod Fields
pub mod Ops
