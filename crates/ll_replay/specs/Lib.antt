-- The definitions of `ll_replay`, by files.
pub mod Cuts
pub mod Kept
pub mod Pieces
pub mod Stream
pub mod Worked
pub mod Script
pub use Rattle.ll_page.specs.Full
pub use Rattle.ll_pieces.specs.View
