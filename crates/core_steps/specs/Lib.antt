pub mod Numbers
pub mod Plans
pub mod Views
pub mod States
pub mod Steps
pub mod Invariant
pub mod Laws
pub mod Examples
