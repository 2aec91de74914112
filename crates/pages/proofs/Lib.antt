pub mod ByNumber
pub mod Gathering
pub mod Judged
pub mod Numbered
pub mod Putting
pub mod Spelt
pub mod Told
pub mod Whole
