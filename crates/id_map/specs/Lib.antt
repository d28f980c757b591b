pub mod Layout
pub mod Setup
pub mod Sound
pub mod Laws
pub mod inside
