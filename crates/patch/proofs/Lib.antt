mod Powers
mod Corrections
pub mod Ranges
