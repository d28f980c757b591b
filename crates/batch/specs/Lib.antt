pub mod Layout
pub mod Answer
pub mod Many
pub mod Laws
pub mod inside
