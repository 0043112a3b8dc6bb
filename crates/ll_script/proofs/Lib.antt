pub mod AnnouncedLemmas
pub mod HexLemmas
pub mod ReadingLemmas
pub mod SettingsLemmas
pub mod WorkedExamples
