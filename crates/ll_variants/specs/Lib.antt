-- Definitions of Multivariant Playlists.
pub mod Lines
pub mod Playlists
pub mod Rates
pub mod Segments
