pub mod Queue
pub mod Layout
pub mod Answer
pub mod Calls
pub mod Laws
pub mod inside
