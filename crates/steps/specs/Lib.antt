pub mod Log
pub mod State
pub mod Faulty
pub mod Register
pub mod Calls
pub mod Cases
