-- Lemmas of the queue of chunks.
pub mod QueueLemmas
