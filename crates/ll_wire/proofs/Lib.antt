pub mod SpelledLemmas
pub mod BlockLemmas
pub mod FrontLemmas
pub mod HeadLemmas
pub mod PlaceLemmas
pub mod ReadLemmas
pub mod ResponseLemmas
pub mod ValidLemmas
