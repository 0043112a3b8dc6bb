-- The definitions that the contracts of this crate cite.
pub mod Asking
pub mod Connections
pub mod Laws
pub mod Playing
pub mod Reading
pub mod Sending
pub mod Steps
pub use Rattle.ll_session.specs.Past
pub use Rattle.ll_session.specs.Requests
