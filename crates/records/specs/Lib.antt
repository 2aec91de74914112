pub mod Bytes
pub mod Causes
pub mod Fields
pub mod Layout
pub mod Reading
pub mod Trips
pub mod Writing
