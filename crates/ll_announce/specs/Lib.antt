-- The definitions of this crate: the messages of an encoder's pieces, and where a rendition stands after them.
pub mod Courses
pub mod Meaning
pub mod Messages
pub mod Places
pub mod Standings
pub mod Worked
