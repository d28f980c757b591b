pub mod RawCommand
pub mod Laws
pub mod Samples
