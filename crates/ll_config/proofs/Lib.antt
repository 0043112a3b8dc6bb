-- Lemmas of a settings file.
pub mod Addresses
pub mod ConfigLemmas
pub mod HostedLemmas
pub mod LineLemmas
pub mod MemoryLemmas
pub mod RightLemmas
