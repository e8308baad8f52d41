pub mod Search
pub mod Trials
