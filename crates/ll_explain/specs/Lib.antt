-- The definitions that the contracts of this crate cite.
pub mod Chains
pub mod Counting
pub mod Explained
pub mod Seeking
pub mod Summary
pub mod SummaryLines
pub mod Upgrade
pub mod Words
