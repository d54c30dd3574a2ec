pub mod Entries
pub mod OneCoverAnswer
