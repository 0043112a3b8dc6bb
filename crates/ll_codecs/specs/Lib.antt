-- Definitions of codecs and of what a section says of its tracks.
pub mod Aac
pub mod Av1
pub mod Avc
pub mod Children
pub mod Codecs
pub mod Entries
pub mod Fields
pub mod Hevc
pub mod Sections
pub mod Spelling
