-- Lemmas of boxes, of tracks, and of texts.
mod ChildLemmas
mod HevcLemmas
mod SpellingLemmas
mod TextLemmas
mod TrackLemmas
