pub mod Record
pub mod Answer
pub mod Judge
pub mod Laws
pub mod inside
