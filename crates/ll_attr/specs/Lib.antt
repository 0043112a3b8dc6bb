-- Definitions of texts, numbers, durations and attribute lists.
pub mod Attributes
pub mod Durations
pub mod Numbers
pub mod Reading
pub mod Same
pub mod Words
pub mod YearEnd
