pub mod Records
mod Stores
