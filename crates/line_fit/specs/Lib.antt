pub mod Answers
pub mod Examples
pub mod Firsts
pub mod Laws
pub mod Lines
pub mod Samples
