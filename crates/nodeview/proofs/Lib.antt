pub mod Fronts
pub mod Walking
pub mod Nodes
pub mod Going
pub mod Chances
pub mod Reports
