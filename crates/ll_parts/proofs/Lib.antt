-- Lemmas of parts, segments and streams.
pub mod OtherLemmas
pub mod PartLemmas
pub mod SegmentLemmas
pub mod StreamLemmas
