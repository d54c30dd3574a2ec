pub mod Check
pub mod Compile
