pub mod Names
pub mod Listings
