pub mod Pages
pub mod Stored
pub mod Written
