pub mod Cursors
pub mod Nests
