pub mod Place
pub mod Called
