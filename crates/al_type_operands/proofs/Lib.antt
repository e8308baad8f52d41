pub mod ArrayCases
pub mod CallCases
pub mod ExpressionCases
pub mod Fitting
pub mod Gathered
pub mod OperandCases
