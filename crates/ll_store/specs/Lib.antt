pub mod Media
pub mod Parts
pub mod Sections
pub mod Step
pub mod Stock
pub mod Stores
pub mod Worked
