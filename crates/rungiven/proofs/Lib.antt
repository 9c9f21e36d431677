pub mod Firsts
pub mod Taken
