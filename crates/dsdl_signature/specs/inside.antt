pub mod Fault
pub mod Written
