pub mod Pages
pub mod Ledger
pub mod Promises
pub mod Standing
pub mod Variants
