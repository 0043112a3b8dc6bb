-- Definitions of boxes with moved times.
pub mod Found
pub mod Laws
pub mod Moved
pub mod Pieces
pub mod Plain
pub mod Times
pub mod Worked
