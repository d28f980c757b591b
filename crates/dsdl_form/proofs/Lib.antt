pub mod Placements
pub mod Decimals
pub mod Words
pub mod Literals
pub mod Sizes
pub mod Types
pub mod Forms
pub mod Bounds
