pub mod Back
pub mod Ends
mod Filled
mod Layers
mod Named
pub mod Over
mod Records
mod Spelled
pub mod Standings
pub mod Unless
mod Widths
