pub mod Drafts
pub mod Examples
pub mod Laws
pub mod Schedules
pub mod Scripts
pub mod Standards
