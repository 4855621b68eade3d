pub mod Texts
pub mod Answers
pub mod Exits
pub mod Runs
pub mod HandedOver
pub mod Calls
pub mod Laws
