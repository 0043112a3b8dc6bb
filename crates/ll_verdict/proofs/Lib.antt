pub mod AcceptedLemmas
pub mod HintLemmas
pub mod LawProofs
pub mod ListLemmas
pub mod NewerLemmas
pub mod StateLemmas
pub mod StepLemmas
pub mod WaitingLemmas
