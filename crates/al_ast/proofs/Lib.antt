pub mod Cases
