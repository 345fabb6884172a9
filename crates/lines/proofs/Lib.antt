pub mod Cuts
pub mod Pairs
pub mod Digits
