pub mod Words
pub mod Check
pub mod Checked
pub mod Write
