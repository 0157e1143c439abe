pub mod PlaceLaws
pub mod Starts
