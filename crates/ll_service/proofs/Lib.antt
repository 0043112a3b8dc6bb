pub mod FaultLemmas
pub mod HandOutLemmas
pub mod ReadLemmas
pub mod SeenLemmas
pub mod TurnLemmas
