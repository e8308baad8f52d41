pub mod Counts
pub mod Contents
pub mod Written
pub mod Distinct
pub mod MemFiles
pub mod MemSink
pub mod HostStream
