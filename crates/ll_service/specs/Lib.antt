-- The definitions that the contracts of this crate, and of those above it, cite.
pub mod Faults
pub mod HandOuts
pub mod Reads
pub mod Turns
pub use Rattle.ll_device.specs.Inward
pub use Rattle.ll_hub.specs.Calls
