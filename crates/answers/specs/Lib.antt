pub mod Setup
pub mod Reception
pub mod Sending
pub mod Word
