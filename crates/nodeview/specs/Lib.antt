pub mod Report
pub mod Told
pub mod Walking
pub mod Writing
pub mod Laws
