pub mod Passing
pub mod Judging
pub mod Finishing
pub mod Whole
pub mod Unique
pub mod OfSheets
pub mod Exists
