pub mod Lends
pub mod Tabled
pub mod Priced
pub mod Used
