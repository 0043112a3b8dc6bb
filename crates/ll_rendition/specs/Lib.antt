pub mod Kept
pub mod Refusal
