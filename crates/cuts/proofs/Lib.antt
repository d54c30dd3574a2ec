pub mod Words
pub mod Pins
pub mod Depth
pub mod Ways
pub mod Visits
pub mod Setting
pub mod Keeping
