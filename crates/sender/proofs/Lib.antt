pub mod NotSendable
pub mod Pieces
pub mod Lent
pub mod After
