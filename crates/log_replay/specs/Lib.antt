pub mod Replay
pub mod inside
