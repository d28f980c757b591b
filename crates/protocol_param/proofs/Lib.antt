mod ValueFacts
pub mod WriteFacts
mod GetSetFacts
mod OpcodeFacts
mod Trips
