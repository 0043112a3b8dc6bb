-- The definitions that the contracts of this crate cite.
pub mod History
pub mod Names
pub mod Rules
