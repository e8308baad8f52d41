pub mod Emits
pub mod Starts
pub mod Assembly
pub mod Fine
