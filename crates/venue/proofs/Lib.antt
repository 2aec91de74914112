mod Agreeing
mod Beside
pub mod Counting
pub mod Dealing
mod Ending
mod Filling
mod Nearby
pub mod Owing
mod Paging
pub mod Placing
pub mod Premises
pub mod Replies
pub mod Resting
mod Rooming
pub mod Secrecy
mod Sorting
pub mod Staying
pub mod Strangers
pub mod Summing
mod Told
mod Untraded
