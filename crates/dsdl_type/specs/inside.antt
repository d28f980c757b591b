pub mod Bases
pub mod Whole
pub mod Signs
pub mod Bounds
