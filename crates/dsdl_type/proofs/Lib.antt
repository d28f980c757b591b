pub mod Bases
pub mod Sizes
pub mod Finite
pub mod Holding
pub mod Initializers
