-- The definitions that the contracts of this crate cite.
pub mod Calls
pub mod Claim
pub mod Passes
pub mod Rung
pub use Rattle.ll_history.specs.History
pub use Rattle.ll_hub_channel.specs.Deeds
pub use Rattle.ll_hub_channel.specs.Told
pub use Rattle.ll_ledger.specs.Ledgers
pub use Rattle.ll_ledger.specs.Sections
pub use Rattle.ll_verdict.specs.Events
pub use Rattle.ll_verdict.specs.Verdict
