pub mod Plain
pub mod Ranked
pub mod Laws
pub mod Rows
