-- Lemmas of sums of sizes, of the largest rates, and of lists of which one is named.
pub mod AnyLemmas
mod RateLemmas
pub mod SizeLemmas
