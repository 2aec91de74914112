pub mod Lent
pub mod Room
pub mod Spelling
