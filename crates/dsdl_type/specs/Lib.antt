pub mod Base
pub mod Size
pub mod Constant
pub mod inside
