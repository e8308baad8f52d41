pub mod Few
pub mod LineSizes
pub mod Tellings
