pub mod Again
pub mod Codes
pub mod Fitting
pub mod Halting
pub mod Meanings
pub mod Own
pub mod Resumes
pub mod Walks
