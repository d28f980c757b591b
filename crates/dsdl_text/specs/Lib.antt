pub mod Text
pub mod Class
pub mod Words
pub mod Lines
pub mod Names
pub mod inside
