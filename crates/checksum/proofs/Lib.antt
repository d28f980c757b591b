pub mod Xor
pub mod Linear
pub mod Below
pub mod Tables
pub mod Window
mod Parity
pub mod Damage
