pub mod Set
pub mod Stores
pub mod inside
