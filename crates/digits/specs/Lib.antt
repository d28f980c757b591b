pub mod Digits
pub mod Find
pub mod inside
