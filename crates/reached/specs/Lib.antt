pub mod Calls
pub mod Sound
pub mod Scans
