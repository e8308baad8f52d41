pub mod Loops
pub mod Footprint
