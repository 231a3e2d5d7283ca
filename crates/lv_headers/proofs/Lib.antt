pub mod HeaderLaws
pub mod LateTurns
pub mod TurnPlaces
