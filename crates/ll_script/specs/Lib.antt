-- The definitions of `ll_script`, by files.
pub mod Answers
pub mod Hex
pub mod Lines
pub mod Reads
pub mod Worked
pub use Rattle.ll_directive.specs.Targets
pub use Rattle.ll_page.specs.Page
