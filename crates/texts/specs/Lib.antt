pub mod Written
pub mod Puts
pub mod Digits
pub mod Bytes
pub mod Lines
pub mod Reads
pub mod Words
