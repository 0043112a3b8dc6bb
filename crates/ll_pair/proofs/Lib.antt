mod FedLemmas
mod HistoryLemmas
mod QueueLemmas
mod ResumeLemmas
mod SentLemmas
mod WentLemmas
