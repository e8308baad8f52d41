pub mod Seen
pub mod Calls
pub mod Lines
pub mod Plans
pub mod Outcome
pub mod Tried
pub mod Written
pub mod Statuses
