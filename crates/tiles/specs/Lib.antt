pub mod Stripes
pub mod Strips
pub mod Plans
pub mod Groups
pub mod Counts
pub mod Examples
