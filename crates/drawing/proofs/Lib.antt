pub mod Holding
pub mod Choosing
pub mod Going
