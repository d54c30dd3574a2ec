pub mod Promise
pub mod Covered
