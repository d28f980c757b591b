pub mod Fields
pub mod There
mod Back
pub mod RoundTrip
pub mod Reading
pub mod Writing
pub mod ItemFacts
pub mod Trip
pub mod Tails
pub mod SignedFacts
pub mod CastFacts
