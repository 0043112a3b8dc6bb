-- Lemmas of what is kept of a record, and of the renditions that are named.
pub mod KeepLemmas
mod StreamLemmas
