pub mod Call
pub mod Laws
pub mod Samples
pub mod inside
