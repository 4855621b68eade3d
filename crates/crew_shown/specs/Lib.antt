pub mod Empties
pub mod Starts
