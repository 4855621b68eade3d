pub mod ScheduleLists
pub mod Confirmations
pub mod Laws
pub mod Examples
