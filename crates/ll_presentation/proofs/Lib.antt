pub mod HereLemmas
pub mod RefusalLemmas
pub mod StepLemmas
