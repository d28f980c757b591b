pub mod Line
pub mod Reading
pub mod Lines
pub mod Laws
pub mod inside
