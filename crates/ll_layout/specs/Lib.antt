-- The definitions of this crate: which bytes are kept, and where.
pub mod Held
pub mod Moves
