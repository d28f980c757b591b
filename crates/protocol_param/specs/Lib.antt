pub mod Value
pub mod GetSetRequest
pub mod GetSetResponse
pub mod ExecuteOpcode
pub mod Laws
pub mod Samples
pub mod inside
