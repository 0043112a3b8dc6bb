-- The definitions that the contracts of this crate cite.
pub mod Answers
pub mod Channels
pub mod Doors
pub mod Heard
pub mod Kept
pub mod Passages
pub mod Publishing
pub mod Serving
