pub mod ByKind
pub mod Rest
pub mod OfKind
