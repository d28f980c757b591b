pub mod Limits
pub mod Layout
pub mod Answer
pub mod Calls
pub mod Laws
pub mod Meeting
