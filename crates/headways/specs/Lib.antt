pub mod Sections
pub mod Rules
pub mod Related
