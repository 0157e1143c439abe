pub mod Boards
pub mod Memory
pub mod Events
pub mod Start
pub mod Laws
