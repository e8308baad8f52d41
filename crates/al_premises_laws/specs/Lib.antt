pub mod Executions
pub mod Met
