pub mod AllocationFacts
pub mod Trips
