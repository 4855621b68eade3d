pub mod Refutations
pub mod Checks
pub mod Examples
pub mod Laws
