pub mod Lists
pub mod Keeps
pub mod Steps
pub mod Makes
pub mod Runs
pub mod Sorts
