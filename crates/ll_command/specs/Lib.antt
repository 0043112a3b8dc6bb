-- The definitions of this crate: the program's commands and exit statuses.
pub mod Commands
pub mod Cuts
pub mod Multivariants
pub mod Secrets
pub mod Status
pub mod Version
