pub mod Words
pub mod Keys
pub mod Places
pub mod Turning
pub mod Begun
