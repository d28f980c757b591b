pub mod Given
pub mod inside
