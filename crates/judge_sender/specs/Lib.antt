pub mod Runs
pub mod Lent
