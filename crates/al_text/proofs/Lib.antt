pub mod DigitLemmas
pub mod WordLemmas
pub mod DecimalLemmas
pub mod ReadingBack
pub mod NumbersFit
