pub mod Files
pub mod Targets
pub mod Told
pub use Rattle.ll_settings.specs.Names
