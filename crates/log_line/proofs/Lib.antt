pub mod Lines
pub mod Cutting
pub mod Writing
pub mod Steps
