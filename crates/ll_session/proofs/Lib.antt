pub mod OutputLemmas
pub mod PastLemmas
pub mod RequestLemmas
pub mod SentLemmas
pub mod ShutLemmas
pub mod SplitLemmas
pub mod TakingLemmas
