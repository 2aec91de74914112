pub mod Dealing
pub mod Filling
