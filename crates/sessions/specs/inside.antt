-- What the code computes: no public contract cites it.
pub mod Blocks
pub mod Place
pub mod Scan
pub mod Sound
