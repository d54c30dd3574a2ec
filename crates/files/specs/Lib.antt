pub mod File
pub mod Judge
pub mod Read
pub mod Answer
