pub mod Rules
pub mod InRange
pub mod Commits
