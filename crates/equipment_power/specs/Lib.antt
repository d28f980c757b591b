pub mod BatteryInfo
pub mod Laws
pub mod Samples
