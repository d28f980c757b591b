pub mod Splice
pub mod Tabulate
pub mod Every
pub mod Octets
pub mod Little
pub mod Digits
pub mod Numbers
pub mod Bytes
pub mod Stores
mod Window
pub mod Widths
