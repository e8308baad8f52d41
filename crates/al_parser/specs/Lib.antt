pub mod NestsStatement
pub mod IsParsed
