pub mod Services
pub mod NamePlaces
pub mod Readings
