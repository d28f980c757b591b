pub mod Record
pub mod inside
