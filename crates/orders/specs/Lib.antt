pub mod Runs
pub mod Orders
pub mod Tiles
pub mod Chains
