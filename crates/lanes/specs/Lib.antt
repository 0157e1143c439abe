pub mod Lanes
pub mod Tidy
