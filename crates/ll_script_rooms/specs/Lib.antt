-- The definitions of `ll_script_rooms`, by files.
pub mod Book
pub mod Kept
pub mod Shelf
pub mod Spots
pub mod Waits
pub mod World
