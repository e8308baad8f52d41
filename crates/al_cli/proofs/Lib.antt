pub mod Lined
pub mod Plans
pub mod Valid
pub mod Onward
pub mod Comings
pub mod Told
pub mod Clauses
mod LockstepRounds
mod Inputs
mod SerialRuns
pub mod Promised
