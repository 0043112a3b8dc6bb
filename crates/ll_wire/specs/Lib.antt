-- The definitions of this crate: heads of requests, and responses (RFC 9112).
pub mod Response
pub mod Parts
pub mod Reading
pub mod Heads
pub mod Places
pub mod Laws
