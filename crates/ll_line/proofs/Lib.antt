pub mod LineLaws
pub mod RestLemmas
pub mod SkipLemmas
pub mod Texts
