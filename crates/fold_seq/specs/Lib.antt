pub mod Answers
pub mod Standing
pub mod Pieces
pub mod Laws
