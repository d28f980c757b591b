pub mod Layout
pub mod Place
pub mod Sound
pub mod inside
