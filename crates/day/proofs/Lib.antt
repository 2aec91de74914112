pub mod Rooms
pub mod Seating
pub mod Stepping
pub mod Showing
