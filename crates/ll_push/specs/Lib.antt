-- The definitions of this crate: what of an encoder's output is sent on each connection to an origin, and what is answered.
pub mod Answers
pub mod Connecting
pub mod Exchanges
pub mod Faults
pub mod History
pub mod Laws
pub mod Meaning
pub mod Next
pub mod Publishing
