pub mod Limits
pub mod Table
pub mod Layout
pub mod inside
