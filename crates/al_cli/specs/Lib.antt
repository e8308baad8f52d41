pub mod Lines
pub mod Shown
pub mod Serial
pub mod Steps
pub mod Why
pub mod Headline
pub mod Promises
pub mod Endings
