pub mod Lists
pub mod Pieces
pub mod Numbers
pub mod Coordinates
pub mod Stores
pub mod Cap
pub mod Sizes
