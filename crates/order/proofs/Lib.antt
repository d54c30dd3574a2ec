pub mod Columns
pub mod Searches
pub mod Hunts
pub mod Unique
pub mod Cases
pub mod ByTest
pub mod Exists
