-- The definitions that the contracts of this crate cite.
pub mod Answer
pub mod EntryReplies
pub mod Found
pub mod Going
pub mod Joined
pub mod Lines
pub mod Passing
pub mod Records
pub mod Steps
pub mod Unread
pub mod Visiting
