pub mod Part
pub mod Tabulate
pub mod Little
pub mod Order
pub mod Width
pub mod Laws
pub mod inside
