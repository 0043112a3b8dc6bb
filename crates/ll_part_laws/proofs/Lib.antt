-- Lemmas of the sources of pieces, and the proofs of their laws.
pub mod ComesLemmas
pub mod CutLemmas
pub mod GoingLemmas
pub mod JoinLemmas
pub mod MadeProof
pub mod PublishedProof
pub mod StageLemmas
pub mod StepLemmas
pub mod WorkedExamples
