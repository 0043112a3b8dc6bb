pub mod AnswerLemmas
pub mod ChannelLemmas
pub mod DoorLemmas
pub mod KeptLemmas
pub mod ServingLemmas
