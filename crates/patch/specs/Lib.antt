pub mod Answer
pub mod Patch
pub mod Laws
pub mod inside
