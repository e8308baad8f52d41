pub mod Options
mod Comings
pub mod Outcomes
