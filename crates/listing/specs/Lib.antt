pub mod Lists
pub mod Listings
pub mod Parts
pub mod Laws
pub mod Examples
