pub mod Once
pub mod Starting
pub mod Turning
pub mod InTurn
pub mod Chunks
pub mod Footprints
