pub mod InwardLemmas
pub mod WriteLemmas
