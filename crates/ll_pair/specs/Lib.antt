-- The definitions of this crate: the messages that come for each of several origins, and how they are brought to it.
pub mod Carrying
pub mod Coming
pub mod Feeding
pub mod History
pub mod Places
pub mod Queues
