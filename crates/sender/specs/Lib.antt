pub mod Send
pub mod Laws
