pub mod Bools
pub mod Lists
pub mod Laws
pub mod Writing
