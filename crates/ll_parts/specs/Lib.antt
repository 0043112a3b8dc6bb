-- Definitions of the pieces of an encoder's stream.
pub mod Joined
pub mod Laws
pub mod Others
pub mod Pieces
pub mod Prompt
pub mod Stream
