-- The definitions that the contracts of this crate cite.
pub mod Channel
pub mod Deeds
pub mod Section
pub mod Told
pub use Rattle.ll_verdict.specs.Events
pub use Rattle.ll_verdict.specs.Verdict
