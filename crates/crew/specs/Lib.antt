pub mod Examples
pub mod Jobs
pub mod Ways
