mod NodeStatusFacts
mod NameFacts
mod ResponseReadFacts
mod ResponseWriteFacts
mod Trips
