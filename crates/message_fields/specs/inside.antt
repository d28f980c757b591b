pub mod Value
pub mod Commands
