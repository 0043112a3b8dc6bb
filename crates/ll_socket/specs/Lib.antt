-- The definitions of this crate: what reads and writes of a nonblocking stream do.
pub mod Tries
