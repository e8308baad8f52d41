pub mod Steps
pub mod Forms
pub mod Roles
pub mod NameLists
pub mod Bindings
pub mod Meanings
pub mod Definitions
