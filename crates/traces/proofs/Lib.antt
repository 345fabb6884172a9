pub mod Lawfuls
pub mod Meeting
