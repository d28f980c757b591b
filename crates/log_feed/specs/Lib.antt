pub mod Log
pub mod Feed
pub mod inside
