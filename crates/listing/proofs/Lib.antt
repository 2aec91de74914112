mod Again
mod Parts
pub mod Runs
