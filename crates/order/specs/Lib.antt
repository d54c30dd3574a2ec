pub mod Paths
pub mod Search
