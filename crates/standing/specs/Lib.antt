pub mod Left
pub mod Moves
