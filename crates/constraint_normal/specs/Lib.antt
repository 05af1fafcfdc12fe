pub mod Held
pub mod Ready
pub mod ReadyPlaces
