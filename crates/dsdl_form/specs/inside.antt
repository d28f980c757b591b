pub mod Placed
pub mod Numerals
pub mod Parts
