pub mod RowSets
pub mod Elimination
pub mod Examples
pub mod Laws
pub mod Verdicts
pub mod Ranges
