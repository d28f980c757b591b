pub mod Fits
pub mod One
pub mod Turns
pub mod Calls
