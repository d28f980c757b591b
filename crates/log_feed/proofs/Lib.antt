mod Replays
mod BlockLaw
mod Running
