mod Gathered
pub mod Rules
