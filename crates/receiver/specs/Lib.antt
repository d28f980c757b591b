pub mod Receive
pub mod inside
