pub mod Belt
pub mod Tidy
