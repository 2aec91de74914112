pub mod Judging
pub mod Naming
pub mod Settling
pub mod Turning
