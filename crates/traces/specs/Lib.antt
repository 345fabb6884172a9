pub mod Kinds
pub mod Clashes
