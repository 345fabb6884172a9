pub mod Loops
pub mod Saying
pub mod Whole
pub mod Answered
