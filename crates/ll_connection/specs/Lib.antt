-- The definitions of `ll_connection`, by files.
pub mod Laws
pub mod Met
pub mod Stands
pub mod Talks
pub mod Turn
pub mod Visit
