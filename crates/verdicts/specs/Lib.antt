pub mod Answers
pub mod Runs
pub mod Once
