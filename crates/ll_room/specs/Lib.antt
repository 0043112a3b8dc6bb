pub mod Answers
pub mod Decided
pub mod Freed
pub mod Full
pub mod Kept
pub mod RoomValue
pub mod StampedValue
pub mod Ticket
