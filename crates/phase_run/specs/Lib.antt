pub mod Postings
pub mod Seats
pub mod Phases
