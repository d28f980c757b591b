-- What the code computes: no public contract cites it.
pub mod Find
pub mod Sound
