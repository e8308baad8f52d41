pub mod LayoutLaws
pub mod TypingLaws
pub mod FormedLaws
pub mod ReductionLaws
pub mod IllFormed
