-- The definitions that the contracts of this crate cite.
pub mod Chunk
pub mod Kept
pub mod Recording
pub mod Taken
