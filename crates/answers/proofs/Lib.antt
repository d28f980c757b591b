pub mod Reception
pub mod Sending
pub mod Words
