pub mod DerivedOrders
pub mod Kept
pub mod SlotLemmas
pub mod Replaced
