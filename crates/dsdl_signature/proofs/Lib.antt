pub mod Faults
pub mod Joined
pub mod Answers
pub mod Ranges
