pub mod PieceLemmas
pub mod PlaceLemmas
