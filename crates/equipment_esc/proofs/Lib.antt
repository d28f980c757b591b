pub mod RawCommandFacts
mod Trips
