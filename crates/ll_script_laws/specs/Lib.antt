-- The definitions of `ll_script_laws`, by files.
pub mod Laws
pub mod Standing
pub mod Talks
pub mod Verdicts
