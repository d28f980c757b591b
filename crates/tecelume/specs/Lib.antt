pub mod Entry
pub mod Condition3
