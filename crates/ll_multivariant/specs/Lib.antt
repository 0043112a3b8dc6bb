-- Definitions of the Multivariant Playlist of a channel.
pub mod Faults
pub mod Keeping
pub mod Naming
pub mod Additions
