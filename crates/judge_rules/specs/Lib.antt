pub mod Limits
pub mod Good
pub mod Verdict
pub mod Laws
pub mod Numbers
pub mod Sender
pub mod Samples
pub mod inside
