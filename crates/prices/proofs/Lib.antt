pub mod Mids
