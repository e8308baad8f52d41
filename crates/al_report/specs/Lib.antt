pub mod Faults
pub mod Lines
pub mod Tables
pub mod Traces
pub mod Places
