pub mod Nodes
pub mod Reports
pub mod Printed
pub mod Ended
pub mod Masses
