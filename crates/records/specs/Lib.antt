pub mod Agreeing
pub mod Records
