pub mod Tables
pub mod Text
pub mod Tokens
pub mod Lines
pub mod ReadingBack
pub mod Writing
