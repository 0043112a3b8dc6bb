pub mod BroughtLemmas
pub mod FullLemmas
