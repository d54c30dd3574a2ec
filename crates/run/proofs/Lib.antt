pub mod Words
pub mod Counting
pub mod Rank
pub mod One
pub mod Numbering
pub mod Passes
pub mod Showing
pub mod Going
