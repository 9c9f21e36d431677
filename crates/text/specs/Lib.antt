pub mod Quoted
pub mod Pieces
pub mod Numbers
pub mod Coordinates
pub mod Fields
pub mod Cap
