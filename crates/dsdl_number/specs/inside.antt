pub mod Capped
pub mod Significand
