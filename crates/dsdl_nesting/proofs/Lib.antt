pub mod Bases
pub mod Given
pub mod Kept
pub mod Levels
pub mod Names
pub mod Rows
pub mod Walks
