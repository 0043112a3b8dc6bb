-- The definitions of this crate: a server's settings file.
pub mod Config
pub mod Doors
pub mod Faults
