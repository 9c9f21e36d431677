pub mod State
pub mod Making
pub mod Updates
pub mod Offers
pub mod Leaves
pub mod Paths
pub mod Entering
pub mod Standing
