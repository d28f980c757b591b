mod Writable
mod Received
mod Refusal
mod Run
mod Blocks
pub mod Condition3
mod Example
mod FromSetup
