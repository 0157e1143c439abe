pub mod CellLists
pub mod FirstPlaces
pub mod NextPlaces
pub mod PhaseSteps
pub mod PlaceTests
