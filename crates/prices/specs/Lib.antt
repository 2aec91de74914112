pub mod Prices
pub mod Rounding
pub mod Rows
