mod Bytes
mod Answered
mod Lent
