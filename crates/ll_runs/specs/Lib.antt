-- Definitions of the times of fragments, parts and segments.
pub mod Prompt
pub mod Refusals
pub mod Times
