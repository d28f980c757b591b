pub mod Keys
pub mod Places
pub mod Written
pub mod Seek
pub mod Soundness
