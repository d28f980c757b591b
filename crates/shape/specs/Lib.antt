pub mod Answer
pub mod Signed
pub mod Cast
pub mod Shape
pub mod Laws
pub mod Samples
pub mod inside
