pub mod Numbers
pub mod Orders
pub mod Places
pub mod Release
pub mod Releases
