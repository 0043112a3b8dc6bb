pub mod Announced
pub mod Attributes
pub mod Kept
pub use Rattle.ll_item.specs.Told
