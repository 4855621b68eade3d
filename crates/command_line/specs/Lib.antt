pub mod Numbers
pub mod Modes
pub mod Syntax
pub mod Invocations
pub mod Laws
pub mod Examples
