pub mod Current
pub mod Here
pub mod Items
pub mod PresentationValue
