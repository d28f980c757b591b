pub mod Crc
pub mod Crc16
pub mod Signature
pub mod Laws
pub mod Damage
pub mod inside
