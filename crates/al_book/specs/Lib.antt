pub mod Judging
pub mod Shelves
pub mod Books
