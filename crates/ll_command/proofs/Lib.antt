pub mod CutLemmas
pub mod FaultLemmas
