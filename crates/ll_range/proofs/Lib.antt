pub mod Copies
pub mod Entries
pub mod OrderLemmas
pub mod Recent
pub mod Seconds
pub mod Steps
