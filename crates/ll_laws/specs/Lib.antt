-- The definitions of `ll_laws`, by files.
pub mod Laws
pub mod Published
pub mod Pushed
pub mod Worked
