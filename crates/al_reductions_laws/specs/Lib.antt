pub mod Reducible
pub mod Serial
pub mod Writes
