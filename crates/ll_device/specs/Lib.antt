-- The definitions of this crate: how devices and links are used, and which bytes come and go.
pub mod Counts
pub mod Inward
pub mod Written
