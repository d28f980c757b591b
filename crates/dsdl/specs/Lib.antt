pub mod Definition
pub mod Form
pub mod Samples
pub mod inside
