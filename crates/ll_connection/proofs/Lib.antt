pub mod CountLemmas
pub mod CutLemmas
pub mod MetLemmas
pub mod OpenLemmas
pub mod RoomsLaws
pub mod StepLemmas
pub mod TalkLemmas
pub mod TurnLemmas
