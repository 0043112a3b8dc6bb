-- Laws of formats and words, and lemmas of dates and times.
pub mod FormatLaws
pub mod WordLaws
pub mod SeparatedLaws
pub mod Durations
pub mod Finding
pub mod NthDate
pub mod Separators
pub mod Boundaries
