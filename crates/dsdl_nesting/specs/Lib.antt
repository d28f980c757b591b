pub mod Nesting
pub mod Signature
pub mod inside
