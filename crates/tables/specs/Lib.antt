pub mod Answering
pub mod Orders
pub mod Reordering
