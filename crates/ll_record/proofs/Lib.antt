pub mod ChunkText
pub mod Next
pub mod Refused
pub mod Right
pub mod Spare
pub mod Steps
pub mod Texts
