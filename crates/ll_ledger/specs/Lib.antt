-- The definitions that the contracts of this crate cite.
pub mod Ledgers
pub mod Sections
pub use Rattle.ll_history.specs.History
pub use Rattle.ll_hub_channel.specs.Deeds
pub use Rattle.ll_hub_channel.specs.Told
