-- Lemmas of what is kept of a rendition's bytes.
pub mod HoldLemmas
pub mod MoveLemmas
