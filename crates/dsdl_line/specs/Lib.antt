pub mod Line
pub mod inside
