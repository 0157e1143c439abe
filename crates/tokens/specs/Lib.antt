pub mod Extents
pub mod Texts
pub mod Views
pub mod Values
pub mod FormLaws
