pub mod Integer
pub mod Number
pub mod inside
