pub mod Failing
pub mod ItemLemmas
pub mod StatementRules
pub mod TypedBy
pub mod Walked
pub mod Within
