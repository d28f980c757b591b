pub mod Records
pub mod Laid
pub mod Answers
pub mod Fresh
