pub mod Changes
pub mod Kept
pub mod Standing
