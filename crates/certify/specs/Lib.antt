pub mod Certificates
pub mod Checks
pub mod Laws
pub mod Examples
