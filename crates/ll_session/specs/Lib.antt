-- The definitions of this crate: one connection's requests, answers and session.
pub mod Requests
pub mod Output
pub mod Talk
pub mod Told
pub mod Past
pub mod Laws
pub use Rattle.ll_wire.specs.Heads
pub use Rattle.ll_wire.specs.Response
pub use Rattle.ll_directive.specs.Targets
