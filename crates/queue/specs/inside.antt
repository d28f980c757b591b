-- What the code computes: no public contract cites it.
pub mod Run
pub mod Checked
