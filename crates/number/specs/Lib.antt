pub mod Counts
pub mod Refusals
pub mod Number
