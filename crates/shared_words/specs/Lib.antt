pub mod Seats
pub mod Memories
pub mod Calls
pub mod Laws
pub mod Examples
