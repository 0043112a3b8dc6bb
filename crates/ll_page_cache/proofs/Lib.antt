pub mod StoredLemmas
pub mod WrittenLemmas
