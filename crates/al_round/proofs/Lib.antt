mod Tasks
mod Keeping
mod Told
mod Crossing
mod SerialRounds
