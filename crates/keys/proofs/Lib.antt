pub mod Counts
pub mod Distinct
pub mod Marks
pub mod Lowest
pub mod Walk
