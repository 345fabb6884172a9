pub mod Held
pub mod Numbers
pub mod Adding
pub mod Taking
pub mod TextBook
pub mod Says
pub mod InMemory
