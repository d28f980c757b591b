pub mod Allocation
pub mod Laws
pub mod Samples
