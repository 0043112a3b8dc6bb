-- Lemmas of settings, their limits and channels' names.
pub mod ChannelLemmas
pub mod SameLemmas
pub mod WithinLimits
