pub mod Entries
pub mod Giving
pub mod Checks
