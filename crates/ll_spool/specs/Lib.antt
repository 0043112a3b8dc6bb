-- The definitions of this crate: the text of a channel's spool.
pub mod Failures
pub mod Files
pub mod Kept
pub mod Layouts
pub mod Placed
pub mod Restored
pub mod Spooled
