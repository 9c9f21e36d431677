pub mod Reports
pub mod Carried
