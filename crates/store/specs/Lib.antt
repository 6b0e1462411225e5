pub mod Meaning
pub mod Live
pub mod Durable
pub mod Whole
pub mod Tables
pub mod Held
