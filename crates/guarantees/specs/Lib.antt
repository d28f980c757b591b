pub mod Written
pub mod Received
pub mod Refusal
pub mod Run
pub mod Blocks
pub mod Condition3
pub mod FromSetup
pub mod Example
