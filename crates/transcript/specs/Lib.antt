pub mod Example
pub mod Laws
pub mod Runs
pub mod Said
pub mod States
pub mod Texts
