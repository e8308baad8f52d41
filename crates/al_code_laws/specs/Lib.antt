pub mod Planned
pub mod Tree
pub mod Laid
pub mod Laws
pub mod Stops
