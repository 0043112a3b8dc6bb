-- The definitions of `ll_twin_laws`, by files.
pub mod Laws
pub mod Own
pub mod Worked
