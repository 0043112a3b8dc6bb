-- The definitions of `ll_witness`, by files.
pub mod Disks
pub mod Sources
