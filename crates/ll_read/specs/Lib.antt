pub mod Draft
pub mod Drafted
pub mod Outline
pub mod Outlined
pub mod Ranges
pub mod Readable
pub mod Reading
pub mod Shape
