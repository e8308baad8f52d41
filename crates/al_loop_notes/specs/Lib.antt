pub mod Uses
pub mod Entries
pub mod Reach
