pub mod Format
pub mod Convert
pub mod Laws
pub mod Samples
