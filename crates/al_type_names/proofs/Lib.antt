pub mod NameLookups
pub mod ScopeLists
pub mod TypeOuts
