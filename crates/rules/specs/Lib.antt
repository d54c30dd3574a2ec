pub mod Rules
pub mod States
pub mod Words
