pub mod Told
mod Checked
mod Turning
mod Walk
mod Calls
pub mod Theorems
