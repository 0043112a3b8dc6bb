-- Lemmas of the text and the files of a channel's spool.
mod BeginLemmas
pub mod FileLemmas
pub mod LayoutLemmas
pub mod LineLemmas
mod PlacedLemmas
mod RestoreLemmas
