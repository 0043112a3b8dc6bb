-- Definitions of the laws of published parts and segments.
pub mod Laws
pub mod Made
pub mod Published
pub mod Worked
