pub mod Seeks
pub mod Changes
