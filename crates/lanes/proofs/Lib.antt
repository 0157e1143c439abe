pub mod Places
pub mod RingRows
pub mod Turns
