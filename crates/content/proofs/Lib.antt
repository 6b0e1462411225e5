pub mod Lays
pub mod Lengths
