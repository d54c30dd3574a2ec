pub mod Covers
pub mod Checking
