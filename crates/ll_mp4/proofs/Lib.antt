-- Lemmas of boxes, units, movies and fragments, and the laws of splitters.
pub mod BoxLemmas
pub mod LeftLemmas
mod RunLemmas
pub mod MoreLemmas
pub mod StreamLaws
mod TrackLemmas
mod UnitLemmas
mod WorkedExamples
