-- Lemmas of boxes with moved times, and their laws.
mod AppendLemmas
mod ByteLemmas
mod FormedLemmas
mod LengthLemmas
mod MovedLaws
mod ParseLemmas
pub mod PieceLemmas
mod PlainLaws
mod PlainLemmas
mod StillLemmas
mod WorkedExamples
