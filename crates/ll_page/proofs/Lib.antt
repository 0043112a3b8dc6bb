pub mod DeltaLemmas
pub mod RangeLemmas
pub mod RangeTexts
pub mod RenditionLemmas
pub mod ShownLemmas
