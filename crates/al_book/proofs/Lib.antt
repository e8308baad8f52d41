mod Sets
mod Verdicts
pub mod Shelves
mod Books
