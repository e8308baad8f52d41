pub mod Laid
pub mod Freed
pub mod Taken
