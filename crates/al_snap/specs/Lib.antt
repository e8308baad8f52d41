pub mod Makers
pub mod Layers
pub mod Marks
pub mod Snaps
pub mod Changes
