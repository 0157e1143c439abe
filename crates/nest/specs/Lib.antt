pub mod Terms
pub mod Faults
pub mod Words
pub mod Views
pub mod Sound
pub mod Nests
pub mod Inside
