pub mod Within
pub mod Words
pub mod Counting
pub mod Needing
pub mod Fitting
