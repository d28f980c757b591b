pub mod Log
pub mod Capture
pub mod Answer
pub mod Convert
pub mod Laws
pub mod Samples
pub mod inside
