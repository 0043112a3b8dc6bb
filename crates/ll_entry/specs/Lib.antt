-- The definitions that the contracts of this crate cite.
pub mod Blank
pub mod Chain
pub mod Entered
pub mod Entries
pub mod Frame
pub mod ItemLaws
pub mod Laws
pub mod Leads
pub mod Lines
pub mod Replies
pub mod SettingsLine
pub mod Told
pub mod Writable
