mod TokenNumbers
mod TreesOfTokens
mod ProgramNumbers
mod SizeBounds
mod TermsObey
pub mod AcceptedSizes
