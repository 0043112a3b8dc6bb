pub mod Decoded
pub mod Pieces
pub mod Plain
pub mod Short
pub mod Tells
