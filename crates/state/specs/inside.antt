-- What the code needs of a state: no public contract cites it.
pub mod Ready
