-- Definitions of a channel's settings and names.
pub mod ChannelPlaces
pub mod Channels
pub mod Configured
pub mod Names
pub mod Same
pub mod Settings
