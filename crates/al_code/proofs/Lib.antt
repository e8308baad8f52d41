pub mod Holes
pub mod EndedPlaces
pub mod Deciding
