pub mod Modes
pub mod Runs
pub mod Reports
pub mod Numbers
pub mod Small
pub mod Met
pub mod Sources
pub mod Accepted
