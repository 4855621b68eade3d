pub mod Comparisons
pub mod Systems
pub mod Legality
pub mod Laws
pub mod Examples
pub mod Terms
pub mod Sides
