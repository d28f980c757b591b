-- What the code computes: no public contract cites it.
pub mod Replied
