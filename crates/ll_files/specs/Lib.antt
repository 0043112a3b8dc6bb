-- The definitions of this crate: the queue of chunks.
pub mod Queue
