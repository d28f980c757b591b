mod Frames
pub mod Logs
mod Captures
pub mod Trailers
mod Walking
pub mod Calls
mod Theorems
