-- The definitions of this crate: a publisher's lines, and the lines that answer them.
pub mod Found
pub mod Laws
pub mod Line
pub mod Lines
pub mod Meaning
pub mod Past
pub mod Refusals
