pub mod Choices
pub mod Runs
pub mod LineEnds
pub mod Texts
pub mod Names
pub mod Parts
pub mod Lines
pub mod Words
