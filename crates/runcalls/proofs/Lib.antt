pub mod Given
pub mod Places
