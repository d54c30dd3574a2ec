pub mod Sets
pub mod Entries
pub mod Reactions
pub mod Answering
pub mod Promise
pub mod Covered
