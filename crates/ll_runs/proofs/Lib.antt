-- Lemmas of microseconds and ticks.
pub mod TimeLemmas
