pub mod Whole
pub mod Programs
pub mod Numbers
