pub mod Announced
pub mod Contents
pub mod ItemLines
pub mod Items
pub mod Media
pub mod Told
