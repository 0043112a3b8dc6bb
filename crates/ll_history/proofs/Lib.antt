mod KeepingLemmas
pub mod PrefixLemmas
pub mod HistoryLemmas
