pub mod Divisors
pub mod Forms
pub mod Inverses
pub mod Laws
pub mod Matrices
pub mod Rows
pub mod Sums
