pub mod Fit
pub mod Lookup
