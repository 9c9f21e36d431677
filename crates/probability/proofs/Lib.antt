pub mod Signs
pub mod Rounds
pub mod Near
pub mod Computed
pub mod Quotient
pub mod Padding
pub mod Integers
