pub mod Turns
pub mod Lengths
pub mod Names
pub mod Located
pub mod Sizes
