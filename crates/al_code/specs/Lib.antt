pub mod Machine
pub mod Runs
pub mod Answerers
pub mod Stands
pub mod Valid
pub mod Checks
