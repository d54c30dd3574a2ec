pub mod Stmt
pub mod Read
pub mod Rows
pub mod Answer
pub mod Contract
pub mod Form
