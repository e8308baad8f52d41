pub mod Loops
pub mod Serially
pub mod Serial
pub mod InOrder
pub mod Writes
