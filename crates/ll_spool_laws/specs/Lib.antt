-- The definitions of `ll_spool_laws`, by files.
pub mod Laws
pub mod Worked
