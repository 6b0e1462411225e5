pub mod Bytes
pub mod Patches
