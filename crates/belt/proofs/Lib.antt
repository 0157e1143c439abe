pub mod BeltRows
pub mod Crowds
pub mod Gaps
pub mod Lines
