pub mod Orders
pub mod Passes
pub mod Listed
