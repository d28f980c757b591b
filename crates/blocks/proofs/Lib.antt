pub mod Bits
pub mod Stores
