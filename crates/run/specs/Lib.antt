pub mod Words
pub mod Held
pub mod React
pub mod Many
