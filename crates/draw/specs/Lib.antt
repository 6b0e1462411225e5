pub mod Selections
pub mod Sources
pub mod Words
