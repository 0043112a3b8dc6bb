-- Lemmas of texts, numbers, durations and attribute lists.
pub mod MicrosAtCut
pub mod Digits
pub mod Fractions
pub mod ReadsBack
pub mod SameLemmas
mod SetNames
pub mod PartsAtCut
pub mod PartsOutside
pub mod Values
pub mod Names
pub mod Spelled
pub mod ReadSoFar
pub mod Faults
pub mod Written
pub mod Tails
pub mod Joined
pub mod Firsts
