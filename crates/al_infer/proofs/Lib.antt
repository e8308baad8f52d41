pub mod OneMore
pub mod Says
