pub mod Piece
pub mod Pieces
pub mod Segments
pub mod View
