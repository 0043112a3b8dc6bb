mod AnswerLemmas
mod ConnectionLemmas
pub mod ExchangeLemmas
mod HistoryLemmas
mod LineLemmas
mod NextLemmas
mod PieceLemmas
mod ReadLemmas
mod StepLemmas
