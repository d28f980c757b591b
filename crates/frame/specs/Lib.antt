pub mod Key
pub mod inside
