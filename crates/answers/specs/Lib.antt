pub mod Words
pub mod Tables
pub mod Questions
pub mod Texts
pub mod Answering
pub mod Code
