pub mod Draws
pub mod Texts
pub mod Generated
pub mod Laws
pub mod Examples
