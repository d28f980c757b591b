pub mod Bases
pub mod Kept
pub mod Sets
