pub mod LayoutNodes
pub mod TypeNodes
pub mod ExpressionNodes
pub mod StatementNodes
pub mod WellFormedNodes
