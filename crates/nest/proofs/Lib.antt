pub mod Copies
pub mod Keeps
pub mod StaysInside
